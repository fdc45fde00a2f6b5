-- Lines one after another.
use Rattle.std.proofs.Common.{◌≡◌, ℕ, suc, ◌+◌, ◌++◌, List, get_or, append_assoc, ◌∙◌, ap, sym, arith}
use Rattle.std.specs.List.{flat_map, range_with_len}
use Rattle.std.proofs.lemmas.List.{flat_map_more}
use Rattle.view_meaning.proofs.Nearest.{range_more}
use Rattle.survey_info.specs.Text.{line, class_line, class_lines}

-- one more line
pub line_more : (whole old new label : List ℕ) (n m : ℕ) → old ≡ whole → new ≡ old ++ line label n → n ≡ m → new ≡ whole ++ line label m
line_more whole old new label n m is made same = made ∙ ap (λ (l : List ℕ). l ++ line label n) is ∙ ap (λ (k : ℕ). whole ++ line label k) same

-- eight pieces after what was there
pub eight : (old a b c d e f g h : List ℕ) → old ++ a ++ b ++ c ++ d ++ e ++ f ++ g ++ h ≡ old ++ (a ++ b ++ c ++ d ++ e ++ f ++ g ++ h)
eight old a b c d e f g h = simp append_assoc

-- the lines of the first classes
abbrev pub lines_below : List ℕ → ℕ → List ℕ
lines_below counts n = flat_map (λ class. class_line class (get_or counts class 0)) (range_with_len 0 n)

-- one more class
pub classes_more : (old out new counts : List ℕ) (n m : ℕ) → m ≡ suc n → out ≡ old ++ lines_below counts n → new ≡ out ++ class_line n (get_or counts n 0) → new ≡ old ++ lines_below counts m
classes_more old out new counts n m next is made =
    let f = λ (class : ℕ). class_line class (get_or counts class 0) in
    let last : 0 + n ≡ n = omega arith in
    made ∙ ap (λ (l : List ℕ). l ++ f n) is ∙ flat_map_more f old (range_with_len 0 n) n
    ∙ ap (λ (l : List ℕ). old ++ flat_map f l) (sym (range_more 0 n n last)) ∙ ap (λ (k : ℕ). old ++ lines_below counts k) (sym next)

-- all classes
pub classes_all : (old out counts : List ℕ) (n : ℕ) → n ≡ 256 → out ≡ old ++ lines_below counts n → out ≡ old ++ class_lines counts
unfolding class_lines
classes_all old out counts n last is = is ∙ ap (λ (k : ℕ). old ++ lines_below counts k) last
