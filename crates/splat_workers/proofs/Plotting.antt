-- A seat after the pairs of one more record.
use Rattle.std.proofs.Common.{◌≡◌, ℕ, suc, ◌+◌, ◌-◌, ◌<◌, ◌≤◌, ◌&&◌, List, [], ◌∷◌, ◌++◌, length, get_or, take, map, Bool, true, false, not, if◌then◌else◌, slice_index, sym, ◌∙◌, ap, arith, append-nil, append_assoc}
use Rattle.std.proofs.lemmas.List.{take_more, get_or-map}
use Rattle.std.proofs.lemmas.Grind.{flat_map-append}
use Rattle.std.specs.List.{All, flat_map, range_with_len}
use Rattle.view_base.specs.declared.place.Point.{Point}
use Rattle.view_meaning.specs.Survey.{point_of, withheld_of}
use Rattle.view_meaning.specs.Classes.{Filter, has, all_classes, passes}
use Rattle.view_meaning.specs.Camera.{Lens, spot}
use Rattle.view_meaning.proofs.Nearest.{range_more}
use Rattle.view_meaning.proofs.Passing.{passes-all}
use Rattle.min_frame.specs.Meaning.{Seated}
use Rattle.splat_workers.specs.Pairs.{pair_at, pair_of}
use Rattle.splat_workers.specs.Waiting.{Waiting, drawn, plotting}

pub plotting-more : (start before after : Seated) (done new all : List (ℕ × ℕ)) → before ≡ plotting start done → after ≡ plotting before new → done ++ new ≡ all → after ≡ plotting start all
plotting-more start before after done new all was made is =
    let regroup : (start.plots ++ done) ++ new ≡ start.plots ++ (done ++ new) = simp append_assoc in
    made ∙ ap (λ (s : Seated). plotting s new) was
    ∙ ap (λ (l : List (ℕ × ℕ)). record { frame = start.frame; plots = l; claims = start.claims; ends = start.ends; root = start.root; out = start.out }) regroup
    ∙ ap (plotting start) is

-- a seat that stays as it was
pub plotting-none : (before after : Seated) → after ≡ before → after ≡ plotting before []
plotting-none before after is =
    is ∙ ap (λ (l : List (ℕ × ℕ)). record { frame = before.frame; plots = l; claims = before.claims; ends = before.ends; root = before.root; out = before.out }) (sym (append-nil before.plots))

-- the same seat and the same plots that wait
pub drawn-same : (s t : Seated) (v w : Waiting) → s ≡ t → v ≡ w → drawn s v ≡ drawn t w
drawn-same s t v w seats waits = ap (λ (x : Seated). drawn x v) seats ∙ ap (drawn t) waits

-- a record that passes has the pair of the spot of its point
pub pair_of-passes : (b cs : List ℕ) (lens : Lens) (filter : Filter) (i : ℕ) (p : Point) → passes b cs filter i ≡ true → p ≡ point_of b i → pair_at lens i (spot lens p) ≡ pair_of b cs lens filter i
unfolding pair_of
pair_of-passes b cs lens filter i p is at =
    ap (λ (q : Point). pair_at lens i (spot lens q)) at ∙ sym (ap (λ (c : Bool). if c then pair_at lens i (spot lens (point_of b i)) else []) is)

-- each record passes a filter of all classes that hides nothing
pub passes-any : (b cs : List ℕ) (filter : Filter) (i : ℕ) → All (λ class. class < 256) cs → i < length cs → filter.classes ≡ all_classes → filter.hide_withheld ≡ false → passes b cs filter i ≡ true
passes-any b cs filter i bytes lt all none = passes-all b cs filter i all none (bytes i 0 lt)

-- a record that does not pass has none
pub pair_of-fails : (b cs : List ℕ) (lens : Lens) (filter : Filter) (i : ℕ) → passes b cs filter i ≡ false → pair_of b cs lens filter i ≡ []
unfolding pair_of
pair_of-fails b cs lens filter i is = ap (λ (c : Bool). if c then pair_at lens i (spot lens (point_of b i)) else []) is

-- the pairs of one more of a list of records
pub pairs-take : (f : ℕ → List (ℕ × ℕ)) (numbers : List ℕ) (place : ℕ) (new : List (ℕ × ℕ)) → place < length numbers → new ≡ f (get_or numbers place 0)
    → flat_map f (take place numbers) ++ new ≡ flat_map f (take (place + 1) numbers)
pairs-take f numbers place new lt is =
    let x = get_or numbers place 0 in
    ap (λ (l : List (ℕ × ℕ)). flat_map f (take place numbers) ++ l) (is ∙ sym (append-nil (f x)))
    ∙ sym (flat_map-append f (take place numbers) (x ∷ []))
    ∙ ap (flat_map f) (sym (take_more numbers place 0 lt))

-- the pairs of one more of a range of records
pub pairs-range : (f : ℕ → List (ℕ × ℕ)) (first number : ℕ) (new : List (ℕ × ℕ)) → first ≤ number → new ≡ f number
    → flat_map f (range_with_len first (number - first)) ++ new ≡ flat_map f (range_with_len first (number + 1 - first))
pairs-range f first number new from is =
    let size : number + 1 - first ≡ suc (number - first) = omega arith in
    ap (λ (l : List (ℕ × ℕ)). flat_map f (range_with_len first (number - first)) ++ l) (is ∙ sym (append-nil (f number)))
    ∙ sym (flat_map-append f (range_with_len first (number - first)) (number ∷ []))
    ∙ ap (flat_map f) (sym (range_more first (number - first) number (omega arith)))
    ∙ ap (λ (n : ℕ). flat_map f (range_with_len first n)) (sym size)

-- whether a record passes, by its class and its withheld bit
pub passes-read : (b cs : List ℕ) (filter : Filter) (i class : ℕ) (hidden answer : Bool) → class ≡ slice_index cs i → hidden ≡ withheld_of b i
    → answer ≡ (has filter.classes class && not (filter.hide_withheld && hidden)) → answer ≡ passes b cs filter i
unfolding passes
passes-read b cs filter i class hidden answer of_class of_bit is =
    is ∙ ap (λ (c : ℕ). has filter.classes c && not (filter.hide_withheld && hidden)) of_class
    ∙ ap (λ (h : Bool). has filter.classes (slice_index cs i) && not (filter.hide_withheld && h)) of_bit

-- what stands at a place of a list that has f of each number
pub at_place : {X : Type 0} (f : ℕ → X) (numbers : List ℕ) (items : List X) (place : ℕ) (d : X) → items ≡ map f numbers → place < length numbers → get_or items place d ≡ f (get_or numbers place 0)
at_place {X} f numbers items place d are lt = ap (λ (l : List X). get_or l place d) are ∙ get_or-map f numbers place 0 d lt
