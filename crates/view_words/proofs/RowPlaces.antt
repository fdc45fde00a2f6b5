-- What each row has at its places.
use Rattle.std.proofs.Common.{◌≡◌, ℕ, zero, suc, ◌+◌, ◌-◌, ◌*◌, ◌/◌, ◌%◌, ◌<◌, ◌≤◌, List, [], ◌∷◌, length, refl, ◌∙◌, ap, arith}
use Rattle.std.proofs.lemmas.List.{get_or_past}
use Rattle.std.proofs.lemmas.List.FromFn.{get_or-map-range_with_len}
use Rattle.std.specs.List.{flat_map, range_with_len}
use Rattle.std.specs.Prelude.{slice_index_or}
use Rattle.view_words.specs.declared.row.Row.{Row}
use Rattle.view_words.specs.declared.row.Row.TheVariants.{Draw, Serve}
use Rattle.view_words.specs.declared.kind.WordKind.{WordKind}
use Rattle.view_words.specs.declared.kind.WordKind.TheVariants.{ReadName, WrittenName, ViewWord, NoWord}
use Rattle.view_words.specs.CommandLine.{kinds, kind_at}

-- a row has no word past its places
pub kind_at-past : (row : Row) (k : ℕ) → length (kinds row) ≤ k → kind_at row k ≡ NoWord
unfolding kind_at
kind_at-past row k past = get_or_past (kinds row) k NoWord past

-- the words of the view of a `draw`
pub kind_at-view : (k : ℕ) → k < 22 → kind_at Draw (4 + k) ≡ ViewWord k
unfolding kind_at
kind_at-view k within =
    let place : 4 + k ≡ suc (suc (suc (suc k))) = omega arith in
    ap (λ (i : ℕ). slice_index_or (kinds Draw) i NoWord) place ∙ get_or-map-range_with_len ViewWord 0 22 k k NoWord within (omega arith)

pub kind_at-viewed : (k : ℕ) → 4 ≤ k → k ≤ 25 → kind_at Draw k ≡ ViewWord (k - 4)
kind_at-viewed k from to = let same : k ≡ 4 + (k - 4) = omega (arith, from) in ap (kind_at Draw) same ∙ kind_at-view (k - 4) (omega (arith, from, to))

-- the kinds of n pairs of names
abbrev pairs : ℕ → ℕ → List WordKind
pairs a n = flat_map (λ k. ReadName ∷ WrittenName ∷ []) (range_with_len a n)

pairs-at : (a n k : ℕ) → k < n → (slice_index_or (pairs a n) (2 * k) NoWord ≡ ReadName) × (slice_index_or (pairs a n) (1 + 2 * k) NoWord ≡ WrittenName)
pairs-at a zero k within = absurd (omega (arith, within))
pairs-at a (suc n) zero within = (refl, refl)
pairs-at a (suc n) (suc k) within =
    let more = pairs-at (a + 1) n k (omega (arith, within)) in
    let read : 2 * suc k ≡ suc (suc (2 * k)) = omega arith in
    let written : 1 + 2 * suc k ≡ suc (suc (1 + 2 * k)) = omega arith in (
      ap (λ (i : ℕ). slice_index_or (pairs a (suc n)) i NoWord) read ∙ more.0,
      ap (λ (i : ℕ). slice_index_or (pairs a (suc n)) i NoWord) written ∙ more.1,
    )

-- the names of pair k of a `serve`
pub kind_at-in : (k : ℕ) → k < 16 → kind_at Serve (4 + 2 * k) ≡ ReadName
unfolding kind_at
kind_at-in k few =
    let place : 4 + 2 * k ≡ suc (suc (suc (suc (2 * k)))) = omega arith in
    ap (λ (i : ℕ). slice_index_or (kinds Serve) i NoWord) place ∙ (pairs-at 0 16 k few).0

pub kind_at-out : (k : ℕ) → k < 16 → kind_at Serve (5 + 2 * k) ≡ WrittenName
unfolding kind_at
kind_at-out k few =
    let place : 5 + 2 * k ≡ suc (suc (suc (suc (1 + 2 * k)))) = omega arith in
    ap (λ (i : ℕ). slice_index_or (kinds Serve) i NoWord) place ∙ (pairs-at 0 16 k few).1

pub kind_at-read : (k : ℕ) → 4 ≤ k → k ≤ 35 → k % 2 ≡ 0 → kind_at Serve k ≡ ReadName
kind_at-read k from to even = let same : k ≡ 4 + 2 * (k / 2 - 2) = omega (arith, from, even) in ap (kind_at Serve) same ∙ kind_at-in (k / 2 - 2) (omega (arith, to))

pub kind_at-written : (k : ℕ) → 4 ≤ k → k ≤ 35 → k % 2 ≡ 1 → kind_at Serve k ≡ WrittenName
kind_at-written k from to odd = let same : k ≡ 5 + 2 * (k / 2 - 2) = omega (arith, from, odd) in ap (kind_at Serve) same ∙ kind_at-out (k / 2 - 2) (omega (arith, to))
