-- What is known of the words of a row that fit: how many they are, and what its numbers and view words are.
use Rattle.std.proofs.Common.{◌≡◌, ◌≢◌, ℕ, ◌+◌, ◌*◌, ◌/◌, ◌-◌, ◌<◌, ◌≤◌, List, Option, Some, None, IsSome, ℤ, pos, negsuc, Bool, true, false, length, drop, take, map, refl, sym, ◌∙◌, ap, arith, length-drop}
use Rattle.std.proofs.lemmas.Bool.Decides.{nat_tests}
use Rattle.std.proofs.lemmas.List.{drop-map, length-map}
use Rattle.std.specs.Option.{option_and_then}
use Rattle.std.proofs.Math.Seq.{take-length}
use Rattle.std.specs.Prelude.{String, string_bytes, ◌==◌, ◌%◌, nat_le, ◌&&◌, ◌^◌, is_none, if◌then◌else◌}
use Rattle.view_base.specs.Text.{number}
use Rattle.view_base.specs.Fitting.{word_at}
use Rattle.view_meaning.specs.Camera.{between}
use Rattle.view_words.specs.declared.row.Row.{Row}
use Rattle.view_words.specs.declared.row.Row.TheVariants.{Draw, Info, Trial, Serve}
use Rattle.view_words.specs.declared.kind.WordKind.{WordKind}
use Rattle.view_words.specs.declared.kind.WordKind.TheVariants.{Workers, Start, Records}
use Rattle.view_words.specs.CommandLine.{texts, kind_at, number_within, is_refused, is_whole, least_words, IsLine, workers_place}
use Rattle.view_words.proofs.Refusals.{is_refused-kind, unrefused, whole, unrefused_few, line_begins}

pub length-texts : {Y : Type 0} (words : List (String Y)) → length (texts words) ≡ length words
length-texts words = length-map words string_bytes

-- no word of a line is refused
pub line_unrefused : (row : Row) (ws : List (List ℕ)) → IsLine row ws → (k : ℕ) → k < length ws → is_refused (kind_at row k) row ws k ≡ false
line_unrefused row ws line = unrefused row ws (line_begins row ws line).1

-- no word of a line is refused as what its row has at the place
pub line_at : (row : Row) (ws : List (List ℕ)) (k : ℕ) (kind : WordKind) → IsLine row ws → k < length ws → kind_at row k ≡ kind → is_refused kind row ws k ≡ false
line_at row ws k kind line below is = sym (is_refused-kind row ws k kind is) ∙ line_unrefused row ws line k below

-- a line has all its words
pub line_whole : (row : Row) (ws : List (List ℕ)) → IsLine row ws → is_whole row (length ws) ≡ true
line_whole row ws line = whole row ws (line_begins row ws line).1

-- a line has at most 36 words
pub line_few : (row : Row) (ws : List (List ℕ)) → IsLine row ws → length ws ≤ 36
line_few row ws line = unrefused_few row ws (length ws) (line_unrefused row ws line)

counts : (n m : ℕ) → (n == m) ≡ true → n ≡ m
counts n m is = grind (arith, nat_tests)

pub length-draw : (ws : List (List ℕ)) → IsLine Draw ws → length ws ≡ 26
length-draw ws line = counts (length ws) 26 (line_whole Draw ws line)

pub length-info : (ws : List (List ℕ)) → IsLine Info ws → length ws ≡ 3
length-info ws line = counts (length ws) 3 (line_whole Info ws line)

pub length-trial : (ws : List (List ℕ)) → IsLine Trial ws → length ws ≡ 5
length-trial ws line = counts (length ws) 5 (line_whole Trial ws line)

-- how many pairs so many words of `serve` have
abbrev pub pairs_of : ℕ → ℕ
pairs_of n = (n - 4) / 2

pairs : (n : ℕ) → (nat_le 6 n && n % 2 == 0) ≡ true → n ≤ 36 → (n ≡ 4 + 2 * pairs_of n) × (1 ≤ pairs_of n) × (pairs_of n ≤ 16)
pairs n whole few =
    let long : 6 ≤ n = grind (arith, nat_tests) in
    let even : n % 2 ≡ 0 = grind (arith, nat_tests) in
    (omega arith, omega arith, omega arith)

pub length-serve : (ws : List (List ℕ)) → IsLine Serve ws → (length ws ≡ 4 + 2 * pairs_of (length ws)) × (1 ≤ pairs_of (length ws)) × (pairs_of (length ws) ≤ 16)
length-serve ws line = pairs (length ws) (line_whole Serve ws line) (line_few Serve ws line)

-- a line has at least the fewest words of its row
pub least_words-line : (row : Row) (ws : List (List ℕ)) → IsLine row ws → least_words row ≤ length ws
least_words-line Draw ws line = omega (arith, length-draw ws line)
least_words-line Info ws line = omega (arith, length-info ws line)
least_words-line Trial ws line = omega (arith, length-trial ws line)
least_words-line Serve ws line = let pairs = length-serve ws line in omega (arith, pairs.0, pairs.1)

-- the place of the number of workers
pub kind_at-workers : (row : Row) → row ≢ Info → kind_at row (workers_place row) ≡ Workers
unfolding kind_at
kind_at-workers Draw other = refl
kind_at-workers Info other = absurd (other refl)
kind_at-workers Trial other = refl
kind_at-workers Serve other = refl

-- a row that has workers has at least so many words
pub workers_within : (row : Row) (ws : List (List ℕ)) → row ≢ Info → IsLine row ws → workers_place row < length ws
workers_within Draw ws other line = omega (arith, length-draw ws line)
workers_within Info ws other line = absurd (other refl)
workers_within Trial ws other line = omega (arith, length-trial ws line)
workers_within Serve ws other line = omega (arith, (length-serve ws line).0)

is_some_number : (o : Option ℕ) → is_none o ≡ false → IsSome o
is_some_number None named = absurd (cc named)
is_some_number (Some n) named = refl

-- the numbers of a line are within their limits
pub number_within-workers : (row : Row) (ws : List (List ℕ)) → row ≢ Info → IsLine row ws → IsSome (number_within 1 64 (word_at ws (workers_place row)))
number_within-workers row ws other line =
    is_some_number (number_within 1 64 (word_at ws (workers_place row))) (line_at row ws (workers_place row) Workers line (workers_within row ws other line) (kind_at-workers row other))

pub number_within-start : (ws : List (List ℕ)) → IsLine Trial ws → IsSome (number_within 0 (2 ^ 64 - 1) (word_at ws 1))
unfolding kind_at
number_within-start ws line = is_some_number (number_within 0 (2 ^ 64 - 1) (word_at ws 1)) (line_at Trial ws 1 Start line (omega (arith, length-trial ws line)) refl)

pub number_within-records : (ws : List (List ℕ)) → IsLine Trial ws → IsSome (number_within 0 (2 ^ 23) (word_at ws 2))
unfolding kind_at
number_within-records ws line = is_some_number (number_within 0 (2 ^ 23) (word_at ws 2)) (line_at Trial ws 2 Records line (omega (arith, length-trial ws line)) refl)

within_is : (least greatest n : ℕ) (o : Option ℤ) → option_and_then (λ z. between z least greatest) o ≡ Some n → (o ≡ Some (pos n)) × (least ≤ n) × (n ≤ greatest)
within_is least greatest n None is = absurd (cc is)
within_is least greatest n (Some (negsuc m)) is = absurd (cc is)
within_is least greatest n (Some (pos m)) is = two (nat_le least m && nat_le m greatest) refl is
  where
    two : (b : Bool) → (nat_le least m && nat_le m greatest) ≡ b → (if b then Some m else None) ≡ Some n → (Some (pos m) ≡ Some (pos n)) × (least ≤ n) × (n ≤ greatest)
    two false test is = absurd (cc is)
    two true test is =
        let e : m ≡ n = cc is in
        let low : least ≤ m = grind (arith, nat_tests) in
        let high : m ≤ greatest = grind (arith, nat_tests) in
        (ap (λ (k : ℕ). Some (pos k)) e, omega arith, omega arith)

-- a number within limits is the word's number, and within them
pub number_within-is : (least greatest n : ℕ) (word : List ℕ) → number_within least greatest word ≡ Some n → (number word ≡ Some (pos n)) × (least ≤ n) × (n ≤ greatest)
number_within-is least greatest n word is = within_is least greatest n (number word) is

-- the texts of the words from place 4 on
pub texts-from : {Y : Type 0} (words : List (String Y)) → 4 ≤ length words → map string_bytes (take (length words - 4) (drop 4 words)) ≡ drop 4 (texts words)
texts-from words long =
    let size : length (drop 4 words) ≡ length words - 4 = length-drop 4 words in
    ap (λ (n : ℕ). map string_bytes (take n (drop 4 words))) (sym size) ∙ ap (map string_bytes) (take-length (drop 4 words)) ∙ sym (drop-map string_bytes 4 words)
