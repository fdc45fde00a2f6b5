-- The canonical line, piece by piece.
use Rattle.std.proofs.Common.{◌≡◌, ℕ, List, [], ◌∷◌, ◌++◌, append_assoc, decimal}
use Rattle.std.specs.Prelude.{codes}
use Rattle.std.specs.Fmt.{signed_decimal}
use Rattle.view_base.specs.declared.place.Point.{Point}
use Rattle.view_meaning.specs.Classes.{Edit}
use Rattle.edit_ops.specs.EditLine.{classes_text, canonical}

-- three coordinates, each after a space
abbrev pub corner_text : Point → List ℕ → List ℕ
corner_text p line = line ++ (32 ∷ signed_decimal p.x) ++ (32 ∷ signed_decimal p.y) ++ (32 ∷ signed_decimal p.z)

regroup : (start edit sp a b c d f g set to : List ℕ) → (((((start ++ edit) ++ (sp ++ a) ++ (sp ++ b) ++ (sp ++ c)) ++ (sp ++ d) ++ (sp ++ f) ++ (sp ++ g)) ++ sp) ++ set ++ sp) ++ to ≡ start ++ (edit ++ (sp ++ (a ++ (sp ++ (b ++ (sp ++ (c ++ (sp ++ (d ++ (sp ++ (f ++ (sp ++ (g ++ (sp ++ (set ++ (sp ++ to))))))))))))))))
regroup start edit sp a b c d f g set to = simp append_assoc

-- the line appended to what stood before
pub canonical_appended : (e : Edit) (start a b c d f g h : List ℕ) → a ≡ start ++ codes "edit" → b ≡ corner_text e.area.min a → c ≡ corner_text e.area.max b → d ≡ c ++ 32 ∷ [] → f ≡ d ++ classes_text e.from → g ≡ f ++ 32 ∷ [] → h ≡ g ++ decimal e.to → h ≡ start ++ canonical e
unfolding canonical
canonical_appended e start a b c d f g h ea eb ec ed ef eg eh =
    let least = e.area.min in
    let greatest = e.area.max in
    rw (eh, eg, ef, ed, ec, eb, ea) (regroup start (codes "edit") (32 ∷ []) (signed_decimal least.x) (signed_decimal least.y) (signed_decimal least.z) (signed_decimal greatest.x) (signed_decimal greatest.y) (signed_decimal greatest.z) (classes_text e.from) (decimal e.to))
