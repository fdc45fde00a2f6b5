-- How many of the first records each class has, with one record more.
use Rattle.std.proofs.Common.{◌≡◌, ◌≢◌, ℕ, ◌+◌, ◌<◌, ◌≤◌, ◌==◌, Bool, true, false, cond, List, [], length, get_or, set, map, replicate, take, drop, refl, sym, ◌∙◌, ap, arith}
use Rattle.std.specs.List.{range_with_len, count_by}
use Rattle.std.proofs.lemmas.Bool.Decides.{nat_tests}
use Rattle.std.proofs.lemmas.List.{ext_get_or, length-set, get_or-set_same, get_or-set_other, get_or-replicate, length-replicate}
use Rattle.std.proofs.lemmas.List.FromFn.{get_or-map-range_with_len, length-map-range_with_len, sum_by-map-range_with_len_more}
use Rattle.std.proofs.lemmas.List.Sums.{count_by-le-length}
use Rattle.view_meaning.specs.Survey.{u8_at, record_count, record_length, record_at, format_of, class_place}
use Rattle.view_meaning.specs.Classes.{class_of, class_at, classes}
use Rattle.las_points.proofs.Fields.{class_byte-from_part}
use Rattle.survey_info.specs.Text.{class_counts}

-- how many of some classes are a given one
abbrev pub count_of : List ℕ → ℕ → ℕ
count_of cs class = count_by (λ c. c == class) cs

-- the classes of the first n records
abbrev classes_below : List ℕ → ℕ → List ℕ
classes_below b n = map (class_at b []) (range_with_len 0 n)

-- so many of the first n records have each class
pub record IsTally (b : List ℕ) (n : ℕ) (counts : List ℕ) : Type 0 where
  pub size : length counts ≡ 256
  pub counted : (class : ℕ) → class < 256 → get_or counts class 0 ≡ count_of (classes_below b n) class

pub tally-begins : (b counts : List ℕ) → counts ≡ replicate 256 0 → IsTally b 0 counts
tally-begins b counts zeros = record {
  size = ap length zeros ∙ length-replicate {A = ℕ} 256 0;
  counted = λ class lt. ap (λ (l : List ℕ). get_or l class 0) zeros ∙ get_or-replicate 256 class 0 0 lt;
}

-- no more records have a class than there are
pub tally-few : (b counts : List ℕ) (n class : ℕ) → IsTally b n counts → class < 256 → get_or counts class 0 ≤ n
tally-few b counts n class h lt =
    let some : count_of (classes_below b n) class ≤ length (classes_below b n) = count_by-le-length (λ c. c == class) (classes_below b n) in
    let all : length (classes_below b n) ≡ n = length-map-range_with_len (class_at b []) 0 n in
    let counted : get_or counts class 0 ≡ count_of (classes_below b n) class = h.counted class lt in
    omega arith

added : (counts : List ℕ) (class k v : ℕ) (same : Bool) → (class == k) ≡ same → class < length counts → v ≡ get_or counts class 0 + 1
    → get_or (set counts class v) k 0 ≡ get_or counts k 0 + cond same 1 0
added counts class k v true is within more =
    let here : class ≡ k = grind (arith, nat_tests) in
    ap (λ (j : ℕ). get_or (set counts class v) j 0) (sym here) ∙ get_or-set_same counts class v 0 within ∙ more ∙ ap (λ (j : ℕ). get_or counts j 0 + 1) here
added counts class k v false is within more =
    let other : k ≢ class = grind (arith, nat_tests) in
    let none : get_or counts k 0 ≡ get_or counts k 0 + 0 = omega arith in
    get_or-set_other counts class k v 0 other ∙ none

-- one more record of a class
pub tally-more : (b counts : List ℕ) (n m class v : ℕ) → m ≡ n + 1 → class < 256 → class ≡ class_at b [] n → v ≡ get_or counts class 0 + 1
    → IsTally b n counts → IsTally b m (set counts class v)
tally-more b counts n m class v next below is more h = record {
  size = length-set counts class v ∙ h.size;
  counted = λ k lt.
      let within : class < length counts = let s : length counts ≡ 256 = h.size in omega arith in
      let last : count_of (classes_below b (n + 1)) k ≡ count_of (classes_below b n) k + cond (class_at b [] n == k) 1 0 =
      sum_by-map-range_with_len_more (λ c. cond (c == k) 1 0) (class_at b []) 0 n n (omega arith) in
      added counts class k v (class == k) refl within more
      ∙ ap (λ (j : ℕ). j + cond (class == k) 1 0) (h.counted k lt)
      ∙ ap (λ (c : ℕ). count_of (classes_below b n) k + cond (c == k) 1 0) is
      ∙ sym last ∙ ap (λ (j : ℕ). count_of (classes_below b j) k) (sym next);
}

-- all records
pub tally-ends : (b counts : List ℕ) (n : ℕ) → n ≡ record_count b → IsTally b n counts → counts ≡ class_counts b
unfolding class_counts classes
tally-ends b counts n last h =
    let f = λ (class : ℕ). count_of (classes_below b (record_count b)) class in
    ext_get_or 0 counts (map f (range_with_len 0 256)) (h.size ∙ sym (length-map-range_with_len f 0 256))
    (λ k lt. let within : k < 256 = let s : length counts ≡ 256 = h.size in omega (arith, lt, s) in
    h.counted k within ∙ ap (λ (j : ℕ). count_of (classes_below b j) k) last ∙ sym (get_or-map-range_with_len f 0 256 k k 0 within (omega arith)))

-- the class of a record, from its bytes
pub class_at-from_part : (b : List ℕ) (i : ℕ) (bytes : List ℕ) (format place byte class : ℕ) → format ≡ format_of b → place ≡ class_place format → 20 ≤ record_length b
    → bytes ≡ take (record_length b) (drop (record_at b i) b) → byte ≡ get_or bytes place 0 → class ≡ class_of format byte → class ≡ class_at b [] i
unfolding class_at u8_at
class_at-from_part b i bytes format place byte class known at least taken read is =
    is ∙ ap (λ (k : ℕ). class_of k byte) known
    ∙ ap (class_of (format_of b)) (class_byte-from_part b i bytes place byte (at ∙ ap class_place known) least taken read)

-- no records
pub tally-none : (b counts : List ℕ) → counts ≡ replicate 256 0 → record_count b ≡ 0 → counts ≡ class_counts b
tally-none b counts zeros none = tally-ends b counts 0 (sym none) (tally-begins b counts zeros)
