-- Pieces joined by a separator, and cut at it again.
use Rattle.std.proofs.Common.{◌≡◌, ℕ, ◌<◌, Bool, true, false, ltb, List, [], ◌∷◌, length, filter, refl, ap, ◌∙◌}
use Rattle.std.specs.List.{All, join_with_byte, slice_split}
use Rattle.std.proofs.lemmas.Bool.{lt-ltb}
use Rattle.std.proofs.lemmas.List.Splits.{slice_split_none, slice_split_at}
use Rattle.view_base.specs.Text.{is_blank, words}

-- no byte of these texts passes a test
abbrev pub AllClear : (ℕ → Bool) → List (List ℕ) → Type 0
AllClear p [] = Unit {0}
AllClear p (text ∷ others) = All (λ c. p c ≡ false) text × AllClear p others

-- each of these texts has a byte
abbrev pub AllSome : List (List ℕ) → Type 0
AllSome [] = Unit {0}
AllSome (text ∷ others) = (0 < length text) × AllSome others

-- texts without the separator are cut again as they were joined
pub slice_split-joined : (p : ℕ → Bool) (c : ℕ) (text : List ℕ) (others : List (List ℕ)) → p c ≡ true → AllClear p (text ∷ others) → slice_split p (join_with_byte c (text ∷ others)) ≡ text ∷ others
slice_split-joined p c text [] cuts clear = slice_split_none p text clear.0
slice_split-joined p c text (next ∷ others) cuts clear =
    slice_split_at p text c (join_with_byte c (next ∷ others)) clear.0 cuts ∙ ap (λ rest. text ∷ rest) (slice_split-joined p c next others cuts clear.1)

all_kept : (texts : List (List ℕ)) → AllSome texts → filter (λ text. ltb 0 (length text)) texts ≡ texts
all_kept [] some = refl
all_kept (text ∷ others) some = rw (lt-ltb 0 (length text) some.0) (ap (λ rest. text ∷ rest) (all_kept others some.1))

-- the words that a line was joined of by spaces
pub words-joined : (text : List ℕ) (others : List (List ℕ)) → AllClear is_blank (text ∷ others) → AllSome (text ∷ others) → words (join_with_byte 32 (text ∷ others)) ≡ text ∷ others
unfolding words
words-joined text others clear some =
    rw (slice_split-joined is_blank 32 text others refl clear) (all_kept (text ∷ others) some)
