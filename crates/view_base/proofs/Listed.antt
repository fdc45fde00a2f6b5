-- A list whose tail was written in place.
use Rattle.std.proofs.Common.{◌≡◌, ℕ, ◌+◌, ◌≤◌, List, [], ◌++◌, length, take, drop, append-nil, ◌∙◌, ap, arith}
use Rattle.std.proofs.lemmas.List.{take_all, drop_all, length-append, length-drop, length-take-le}
use Rattle.view_base.specs.Listed.{Listed, with_tail}

-- a tail as long as the one that was there takes its place
pub items-with_tail : {A : Type 0} (list : Listed A) (from : ℕ) (tail : List A) → from + length tail ≡ length list.items → (with_tail list from tail).items ≡ take from list.items ++ tail
items-with_tail {A} list from tail long =
    let none : drop (length tail) (drop from list.items) ≡ [] = drop_all (length tail) (drop from list.items) (omega (arith, long, length-drop from list.items)) in
    let front : length (take from list.items) ≡ from = length-take-le from list.items (omega (arith, long)) in
    let whole : length (take from list.items ++ tail) ≤ length list.items = omega (arith, long, front, length-append (take from list.items) tail) in
    ap (λ (l : List A). take (length list.items) (take from list.items ++ tail ++ l)) none
    ∙ ap (λ (l : List A). take (length list.items) l) (append-nil (take from list.items ++ tail))
    ∙ take_all (length list.items) (take from list.items ++ tail) whole
