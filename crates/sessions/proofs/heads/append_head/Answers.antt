use Rattle.std.proofs.Common.{◌≡◌, ◌++◌, ◌∷◌, [], ◌∙◌, List, ℕ, ap, append_assoc, decimal}
use Rattle.sessions.specs.Session.{head}
use Rattle.sessions.proofs.heads.append_head.Goals as goal

six : (old a b d e f g : List ℕ) → ((((((old ++ a) ++ b) ++ d) ++ e) ++ f) ++ g) ≡ old ++ (a ++ b ++ d ++ e ++ f ++ g)
six old a b d e f g = simp append_assoc

pub returns : goal.returns
unfolding head
returns c =
    c.append_within-4.ensures.appended ∙ ap (λ (l : List ℕ). l ++ 10 ∷ [])
    (c.append_decimal-2.ensures.appended ∙ ap (λ (l : List ℕ). l ++ decimal c.args.number)
    (c.append_within-3.ensures.appended ∙ ap (λ (l : List ℕ). l ++ 32 ∷ [])
    (c.append_decimal.ensures.appended ∙ ap (λ (l : List ℕ). l ++ decimal c.args.version)
    (c.append_within-2.ensures.appended ∙ ap (λ (l : List ℕ). l ++ 32 ∷ []) c.append_within.ensures.appended))))
    ∙ six c.args.out.now.items c.args.word.now (32 ∷ []) (decimal c.args.version) (32 ∷ []) (decimal c.args.number) (10 ∷ [])
