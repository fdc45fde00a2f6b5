-- Lists that pieces are appended to, one after another.
use Rattle.std.proofs.Common.{◌≡◌, List, ◌++◌, ◌∙◌, ap}
use Rattle.std.proofs.lemmas.List.{append_assoc}

pub append_3 : {A : Type 0} (old one two three a b d : List A) → one ≡ old ++ a → two ≡ one ++ b → three ≡ two ++ d → three ≡ old ++ (a ++ b ++ d)
append_3 {A = A} old one two three a b d first second third =
    third ∙ ap (λ (xs : List A). xs ++ d) (second ∙ ap (λ (xs : List A). xs ++ b) first ∙ append_assoc old a b) ∙ append_assoc old (a ++ b) d

pub append_4 : {A : Type 0} (old one two three four a b d e : List A) → one ≡ old ++ a → two ≡ one ++ b → three ≡ two ++ d → four ≡ three ++ e
    → four ≡ old ++ (a ++ b ++ d ++ e)
append_4 {A = A} old one two three four a b d e first second third fourth =
    fourth ∙ ap (λ (xs : List A). xs ++ e) (append_3 old one two three a b d first second third) ∙ append_assoc old (a ++ b ++ d) e
