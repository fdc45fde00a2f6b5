-- Counts that rose or stayed, of one name and of all.
use Rattle.std.proofs.Common.{◌≡◌, ℕ, ◌<◌, ◌≤◌, List, refl, sym, subst, arith, inl, inr}
use Rattle.std.proofs.lemmas.Bool.Decides.{nat_tests, eqb_tells}
use Rattle.view_ends.specs.Desk.{Said, Untouched}
use Rattle.view_ends.specs.Ends.{Rose, AllStay, OthersStay}

pub rose_earlier : (a b c : ℕ) → a ≤ b → Rose b c → Rose a c
rose_earlier a b c le rose = grind (arith, nat_tests)

pub rose_from_none : (n : ℕ) → Rose 0 n → 0 < n
rose_from_none n rose = grind (arith, nat_tests)

pub at_most : (a b : ℕ) → b ≡ a → b ≤ a
at_most a b same = omega (arith, same)

-- two numbers of which it can't be shown that they differ are one
stable : (a b : ℕ) → ((a ≡ b → ⊥) → ⊥) → a ≡ b
stable a b none = elim (eqb_tells a b) [
  | inl same ↦ same.1
  | inr differ ↦ absurd (none differ.1)
]

-- a count that stays for one name and for all others stays for all
pub all_stay : (old new : List ℕ → ℕ) (name : List ℕ) → new name ≡ old name → OthersStay old new name → AllStay old new
all_stay old new name here others other =
    stable (new other) (old other) (λ differ. differ (others other (λ same. differ (subst (λ (at : List ℕ). new at ≡ old at) (sym same) here))))

pub same_said : (said : Said) → Untouched said said
same_said said = record {
  files = λ name. refl;
  unopened = λ name. refl;
  reads = λ name. refl;
  writes = λ name. refl;
  taken = λ name. refl;
  unkept = λ name. refl;
  known = λ name known. known;
}
