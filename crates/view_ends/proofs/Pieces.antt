-- What is taken or given piece by piece.
use Rattle.std.proofs.Common.{◌≡◌, ℕ, ◌+◌, List, [], ◌++◌, take, drop, Option, Some, None, refl, sym, ◌∙◌, ap, subst}
use Rattle.std.proofs.lemmas.List.{append_assoc}
use Rattle.std.proofs.Math.Seq.{take-add}
use Rattle.view_ends.specs.Ends.{Leaves, Gains}

-- no byte off its front
pub leaves_nothing : (left : Option (List ℕ)) → Leaves left [] left
leaves_nothing None = tt
leaves_nothing (Some all) = (all, refl, refl)

-- one piece off its front, and then a second
pub leaves_more : (old mid new : Option (List ℕ)) (xs ys : List ℕ) → Leaves old xs mid → Leaves mid ys new → Leaves old (xs ++ ys) new
leaves_more None mid new xs ys a b = tt
leaves_more (Some all) mid new xs ys a b =
    let b' : Leaves (Some a.0) ys new = subst (λ m. Leaves m ys new) a.1 b in
    (b'.0, b'.1, a.2 ∙ ap (λ l. xs ++ l) b'.2 ∙ sym (append_assoc xs ys b'.0))

-- one piece at its end, and then a second
pub gains_more : (old mid new : Option (List ℕ)) (xs ys : List ℕ) → Gains old xs mid → Gains mid ys new → Gains old (xs ++ ys) new
gains_more None mid new xs ys a b = tt
gains_more (Some all) mid new xs ys a b =
    let b' : Gains (Some (all ++ xs)) ys new = subst (λ m. Gains m ys new) a b in
    b' ∙ ap (λ l. Some l) (append_assoc all xs ys)

-- the first n bytes of a piece at its end, and then the next m
pub gains_take : (old mid new : Option (List ℕ)) (n m : ℕ) (piece rest : List ℕ) → rest ≡ drop n piece → Gains old (take n piece) mid → Gains mid (take m rest) new → Gains old (take (n + m) piece) new
gains_take old mid new n m piece rest is a b =
    let b' : Gains mid (take m (drop n piece)) new = subst (λ r. Gains mid (take m r) new) is b in
    subst (λ l. Gains old l new) (sym (take-add n m piece)) (gains_more old mid new (take n piece) (take m (drop n piece)) a b')
