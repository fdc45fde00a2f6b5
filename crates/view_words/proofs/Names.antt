-- The names of a line that fits: none is empty, and two that are the same are a `-` that is read and one that is written.
use Rattle.std.proofs.Common.{◌≡◌, ◌≢◌, ℕ, ◌<◌, List, [], Bool, true, false, length, inl, inr, refl, sym, ◌∙◌, ap, arith}
use Rattle.std.proofs.lemmas.Bool.{cases_lt, cases_eq}
use Rattle.std.proofs.lemmas.Slice.Eq.{bytes_eq-Decides}
use Rattle.std.specs.Prelude.{not, codes, ◌&&◌}
use Rattle.std.specs.Str.{bytes_eq}
use Rattle.view_base.specs.Fitting.{word_at}
use Rattle.view_words.specs.declared.row.Row.{Row}
use Rattle.view_words.specs.declared.row.Row.TheVariants.{Draw, Info, Trial, Serve}
use Rattle.view_words.specs.declared.kind.WordKind.{WordKind}
use Rattle.view_words.specs.declared.kind.WordKind.TheVariants.{ReadName, WrittenName}
use Rattle.view_words.specs.CommandLine.{kind_at, bars, barred, is_taken, IsLine}
use Rattle.view_words.proofs.Places.{any-range_none, any-range_some, none_passes, neither}
use Rattle.view_words.proofs.Lines.{line_at}

-- an earlier name that bars the one at a place
pub is_taken-some : (row : Row) (ws : List (List ℕ)) (k j : ℕ) → j < k → barred row ws k j ≡ true → is_taken row ws k ≡ true
unfolding is_taken
is_taken-some row ws k j below here = any-range_some (barred row ws k) 0 k j (omega arith) (omega arith) here

-- no earlier name that bars the one at a place
pub is_taken-none : (row : Row) (ws : List (List ℕ)) (k : ℕ) → ((j : ℕ) → j < k → barred row ws k j ≡ false) → is_taken row ws k ≡ false
unfolding is_taken
is_taken-none row ws k none = any-range_none (barred row ws k) 0 k (λ j _ below. none j (omega arith))

unbarred : (row : Row) (ws : List (List ℕ)) (k j : ℕ) → is_taken row ws k ≡ false → j < k → barred row ws k j ≡ false
unfolding is_taken
unbarred row ws k j none below = none_passes (barred row ws k) k j none below

read_stands : (row : Row) (ws : List (List ℕ)) (k : ℕ) → IsLine row ws → k < length ws → kind_at row k ≡ ReadName → (bytes_eq (word_at ws k) [] ≡ false) × (is_taken row ws k ≡ false)
read_stands row ws k line below read = neither (bytes_eq (word_at ws k) []) (is_taken row ws k) (line_at row ws k ReadName line below read)

written_stands : (row : Row) (ws : List (List ℕ)) (k : ℕ) → IsLine row ws → k < length ws → kind_at row k ≡ WrittenName → (bytes_eq (word_at ws k) [] ≡ false) × (is_taken row ws k ≡ false)
written_stands row ws k line below written = neither (bytes_eq (word_at ws k) []) (is_taken row ws k) (line_at row ws k WrittenName line below written)

some : (word : List ℕ) → bytes_eq word [] ≡ false → word ≢ []
some word named none = absurd (cc (named, ap (λ (w : List ℕ). bytes_eq w []) none))

-- no name is empty
pub read_named : (row : Row) (ws : List (List ℕ)) (k : ℕ) → IsLine row ws → k < length ws → kind_at row k ≡ ReadName → word_at ws k ≢ []
read_named row ws k line below read = some (word_at ws k) (read_stands row ws k line below read).0

pub written_named : (row : Row) (ws : List (List ℕ)) (k : ℕ) → IsLine row ws → k < length ws → kind_at row k ≡ WrittenName → word_at ws k ≢ []
written_named row ws k line below written = some (word_at ws k) (written_stands row ws k line below written).0

same_bars : (row : Row) (ws : List (List ℕ)) (k j : ℕ) → barred row ws k j ≡ false → word_at ws j ≡ word_at ws k → bars (kind_at row j) (kind_at row k) (word_at ws k) ≡ false
same_bars row ws k j free same = sym (ap (λ (b : Bool). b && bars (kind_at row j) (kind_at row k) (word_at ws k)) ((bytes_eq-Decides (word_at ws j) (word_at ws k)).1 same)) ∙ free

not_barred : (row : Row) (ws : List (List ℕ)) (k j : ℕ) (earlier later : WordKind) → is_taken row ws k ≡ false → j < k → word_at ws j ≡ word_at ws k → kind_at row j ≡ earlier → kind_at row k ≡ later → bars earlier later (word_at ws k) ≡ false
not_barred row ws k j earlier later free below same before here =
    sym (ap (λ (kind : WordKind). bars kind (kind_at row k) (word_at ws k)) before ∙ ap (λ (kind : WordKind). bars earlier kind (word_at ws k)) here) ∙ same_bars row ws k j (unbarred row ws k j free below) same

read_not_again : (row : Row) (ws : List (List ℕ)) (j k : ℕ) → IsLine row ws → j < k → k < length ws → kind_at row j ≡ ReadName → kind_at row k ≡ ReadName → word_at ws j ≡ word_at ws k → ⊥
read_not_again row ws j k line below within before here same =
    absurd (cc (not_barred row ws k j ReadName ReadName (read_stands row ws k line within here).1 below same before here))

written_not_again : (row : Row) (ws : List (List ℕ)) (j k : ℕ) → IsLine row ws → j < k → k < length ws → kind_at row j ≡ WrittenName → kind_at row k ≡ WrittenName → word_at ws j ≡ word_at ws k → ⊥
written_not_again row ws j k line below within before here same =
    absurd (cc (not_barred row ws k j WrittenName WrittenName (written_stands row ws k line within here).1 below same before here))

-- two read names that are the same stand at one place
pub read_once : (row : Row) (ws : List (List ℕ)) (j k : ℕ) → IsLine row ws → j < length ws → k < length ws → kind_at row j ≡ ReadName → kind_at row k ≡ ReadName → word_at ws j ≡ word_at ws k → j ≡ k
read_once row ws j k line in_j in_k is_j is_k same =
    elim (cases_lt j k) [
      | inl before ↦ absurd (read_not_again row ws j k line before in_k is_j is_k same)
      | inr later ↦ elim (cases_eq j k) [
        | inl one ↦ one
        | inr two ↦ absurd (read_not_again row ws k j line (omega arith) in_j is_k is_j (sym same))
      ]
    ]

-- two written names that are the same stand at one place
pub written_once : (row : Row) (ws : List (List ℕ)) (j k : ℕ) → IsLine row ws → j < length ws → k < length ws → kind_at row j ≡ WrittenName → kind_at row k ≡ WrittenName → word_at ws j ≡ word_at ws k → j ≡ k
written_once row ws j k line in_j in_k is_j is_k same =
    elim (cases_lt j k) [
      | inl before ↦ absurd (written_not_again row ws j k line before in_k is_j is_k same)
      | inr later ↦ elim (cases_eq j k) [
        | inl one ↦ one
        | inr two ↦ absurd (written_not_again row ws k j line (omega arith) in_j is_k is_j (sym same))
      ]
    ]

dash : (word : List ℕ) → not (bytes_eq word (codes "-")) ≡ false → word ≡ codes "-"
dash word free = (bytes_eq-Decides word (codes "-")).0 (is_true (bytes_eq word (codes "-")) free)
  where
    is_true : (b : Bool) → not b ≡ false → b ≡ true
    is_true true is = refl
    is_true false is = absurd (cc is)

-- a read name and a written one that are the same are both `-`
pub read_and_written : (row : Row) (ws : List (List ℕ)) (j k : ℕ) → IsLine row ws → j < length ws → k < length ws → kind_at row j ≡ ReadName → kind_at row k ≡ WrittenName → word_at ws j ≡ word_at ws k → word_at ws j ≡ codes "-"
read_and_written row ws j k line in_j in_k is_j is_k same =
    elim (cases_lt j k) [
      | inl before ↦ same ∙ dash (word_at ws k) (not_barred row ws k j ReadName WrittenName (written_stands row ws k line in_k is_k).1 before same is_j is_k)
      | inr later ↦ elim (cases_eq j k) [
        | inl one ↦ absurd (cc (sym is_j ∙ ap (kind_at row) one ∙ is_k))
        | inr two ↦ dash (word_at ws j) (not_barred row ws j k WrittenName ReadName (read_stands row ws j line in_j is_j).1 (omega arith) (sym same) is_k is_j)
      ]
    ]

-- where the names of each row stand
pub kind_at-draw : (kind_at Draw 1 ≡ ReadName) × (kind_at Draw 2 ≡ WrittenName)
unfolding kind_at
kind_at-draw = (refl, refl)

pub kind_at-info : (kind_at Info 1 ≡ ReadName) × (kind_at Info 2 ≡ WrittenName)
unfolding kind_at
kind_at-info = (refl, refl)

pub kind_at-trial : kind_at Trial 4 ≡ WrittenName
unfolding kind_at
kind_at-trial = refl

pub kind_at-serve : (kind_at Serve 1 ≡ ReadName) × (kind_at Serve 3 ≡ WrittenName)
unfolding kind_at
kind_at-serve = (refl, refl)
