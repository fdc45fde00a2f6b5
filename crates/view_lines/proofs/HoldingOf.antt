-- What a line asks of the version that is held, by how many words it has.
use Rattle.std.proofs.Common.{◌≡◌, ◌∙◌, ℕ, List, [], ◌∷◌, None, refl, ap}
use Rattle.view_base.specs.Text.{words}
use Rattle.view_lines.specs.Command.{holding_of}

pub holding_of-wordless : (line : List ℕ) → words line ≡ [] → holding_of (words line) ≡ None
unfolding holding_of
holding_of-wordless line none = rw none refl

pub holding_of-more : (line word next : List ℕ) (rest others : List (List ℕ)) → words line ≡ word ∷ rest → rest ≡ next ∷ others → holding_of (words line) ≡ None
unfolding holding_of
holding_of-more line word next rest others is more = rw is (rw more refl)

pub holding_of-alone : (line word : List ℕ) (rest : List (List ℕ)) → words line ≡ word ∷ rest → rest ≡ [] → holding_of (words line) ≡ holding_of (word ∷ [])
holding_of-alone line word rest is none = ap holding_of (is ∙ ap (λ (ws : List (List ℕ)). word ∷ ws) none)
