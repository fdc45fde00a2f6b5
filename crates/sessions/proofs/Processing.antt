-- What a session may have processed is known by its length.
use Rattle.std.proofs.Common.{◌≡◌, ℕ, ◌≤◌, min, List, length, take, sym, ap, ◌∙◌, inl, inr, arith}
use Rattle.std.specs.Prelude.{◌⊎◌}
use Rattle.std.proofs.lemmas.List.{length-take, take_all, take_min, take-append-le}
use Rattle.sessions.specs.declared.serving.TheConstants.{INPUT_LIMIT}
use Rattle.sessions.specs.declared.end.Reason as reason
use Rattle.sessions.specs.declared.end.Reason.TheVariants.{Finished, ReadFault, SessionLimit, WriteFault, Memory}
use Rattle.sessions.specs.Session.{Item, commands, whole, MayProcess, Processed}

-- the first items of a text that began an input, or of the whole input where the text is all of it
abbrev pub AreFirstOf : ℕ → List ℕ → List ℕ → List Item → Type 0
AreFirstOf format input text items = (k : ℕ) × ((items ≡ take k (commands format text)) ⊎ ((text ≡ input) × (items ≡ take k (whole format input))))

-- a front of a list is known by its length
front_is : (k : ℕ) (items all : List Item) → items ≡ take k all → items ≡ take (length items) all
front_is k items all h = h ∙ take-length k all ∙ ap (λ (u : List Item). take (length u) all) (sym h)
  where
    take-length : (k : ℕ) (all : List Item) → take k all ≡ take (length (take k all)) all
    take-length k all = sym (ap (λ n. take n all) (length-take k all) ∙ take_min k all)

-- the commands of a text begin what the whole of it is
commands_front : (format : ℕ) (t : List ℕ) (n : ℕ) → n ≤ length (commands format t) → take n (commands format t) ≡ take n (whole format t)
unfolding whole
commands_front format t n short = sym (take-append-le n (commands format t) _ short)

of_commands : (format k : ℕ) (t : List ℕ) (items : List Item) → items ≡ take k (commands format t) → items ≡ take (length items) (whole format t)
of_commands format k t items h =
    let all = commands format t in
    let short : length items ≤ length all = omega (arith, ap length h, length-take k all) in
    front_is k items all h ∙ commands_front format t (length items) short

-- what was given up
of_either : (format : ℕ) (input text : List ℕ) (items : List Item) → AreFirstOf format input text items → items ≡ take (length items) (whole format text)
of_either format input text items h = elim h.1 as (λ _. items ≡ take (length items) (whole format text)) [
  | inl some ↦ of_commands format h.0 text items some
  | inr all ↦ front_is h.0 items (whole format text) (all.1 ∙ ap (λ (u : List ℕ). take h.0 (whole format u)) (sym all.0))
]

-- what a session may have processed begins what the part of its input that it heard is
may_front : (format : ℕ) (input text : List ℕ) (items : List Item) (reason : reason.Reason) → MayProcess format input text items reason → items ≡ take (length items) (whole format text)
may_front format input text items Finished h =
    let same : items ≡ whole format text = h.1 ∙ ap (whole format) (sym h.0) in
    same ∙ sym (take_all (length items) (whole format text) (omega (arith, ap length same)))
may_front format input text items ReadFault h = of_commands format (length (commands format text)) text items (h ∙ sym (take_all _ (commands format text) (omega arith)))
may_front format input text items SessionLimit h = of_commands format (length (commands format text)) text items (h ∙ sym (take_all _ (commands format text) (omega arith)))
may_front format input text items WriteFault h = of_either format input text items h
may_front format input text items Memory h = of_either format input text items h

pub processed_one : (format : ℕ) (input : List ℕ) (taken : ℕ) (reason : reason.Reason) (items others : List Item) → length items ≡ length others
    → Processed format input taken reason items → Processed format input taken reason others → items ≡ others
processed_one format input taken reason items others same h other =
    let text = take (min taken INPUT_LIMIT) input in
    may_front format input text items reason h.items_are ∙ ap (λ n. take n (whole format text)) same ∙ sym (may_front format input text others reason other.items_are)
