use Rattle.std.proofs.Common.{◌≡◌, ℕ, ◌-◌, ◌^◌, ◌++◌, [], List, All, replicate, ap, sym, subst, ◌∙◌, rules}
use Rattle.std.proofs.lemmas.List.Elements.{All-append, All-replicate}
use Rattle.resolve_colour.specs.Names.{NamesOne}
use Rattle.unit_frames.proofs.colours.fill_row.Goals as goal

row_names : (n m : ℕ) (start first items : List ℕ) → start ≡ [] → first ≡ start ++ replicate n (2 ^ 64 - 1) → items ≡ first ++ replicate m 21474836480 → All (NamesOne 1) items
row_names n m start first items none black shown =
    let empty : NamesOne 1 (2 ^ 64 - 1) = search rules in
    let named : NamesOne 1 21474836480 = search rules in
    subst (λ (l : List ℕ). All (NamesOne 1) l)
    (sym (shown ∙ ap (λ (l : List ℕ). l ++ replicate m 21474836480) (black ∙ ap (λ (l : List ℕ). l ++ replicate n (2 ^ 64 - 1)) none)))
    (All-append (NamesOne 1) (replicate n (2 ^ 64 - 1)) (replicate m 21474836480) (All-replicate (NamesOne 1) n (2 ^ 64 - 1) empty) (All-replicate (NamesOne 1) m 21474836480 named))

pub returns-clause-names : goal.returns-clause-names
returns-clause-names c =
    row_names 4500 4501 c.args.words.now.items c.extend_by.new.self.items c.extend_by-2.new.self.items c.requires.none c.extend_by.ensures.extended c.extend_by-2.ensures.extended
