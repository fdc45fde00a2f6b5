-- A word gives back the record that it was made of.
use Rattle.std.proofs.Common.{◌≡◌, ℕ, ◌+◌, ◌*◌, ◌-◌, ◌%◌, ◌^◌, ◌<◌, ◌≤◌, List, Option, Some, None, Bool, false, ◌==◌, if◌then◌else◌, refl, sym, ◌∙◌, ap, subst, arith}
use Rattle.std.proofs.lemmas.Bool.Decides.{nat_tests}
use Rattle.view_meaning.specs.Survey.{record_count}
use Rattle.view_meaning.specs.Camera.{Lens, Spot, spot}
use Rattle.view_meaning.specs.Picture.{View, Shows, nearest, depth_of, spot_depth}
use Rattle.view_meaning.specs.Frame.{word_of, record_in, IsFrame, NamesNearest}
use Rattle.view_meaning.proofs.Law.{nearest_shows}
use Rattle.view_meaning.proofs.Spots.{spot_within}

pub record_in-some : (depth i : ℕ) → i < 2 ^ 32 → depth < 2 ^ 32 - 1 → record_in (depth * 2 ^ 32 + i) ≡ Some i
record_in-some depth i short shallow =
    let differs : (depth * 2 ^ 32 + i == 2 ^ 64 - 1) ≡ false = grind (arith, nat_tests) in
    let rest : (depth * 2 ^ 32 + i) % 2 ^ 32 ≡ i = omega arith in
    ap (λ (b : Bool). if b then None else Some ((depth * 2 ^ 32 + i) % 2 ^ 32)) differs ∙ ap (λ (n : ℕ). Some n) rest

pub record_in-word_of : (depth : ℕ → ℕ) (o : Option ℕ) → ((i : ℕ) → o ≡ Some i → (i < 2 ^ 32) × (depth i < 2 ^ 32 - 1)) → record_in (word_of depth o) ≡ o
record_in-word_of depth None fits = refl
record_in-word_of depth (Some i) fits = record_in-some (depth i) i (fits i refl).0 (fits i refl).1

far_enough : (lens : Lens) (o : Option Spot) → lens.far < 2 ^ 32 - 1 → ((s : Spot) → o ≡ Some s → s.depth ≤ lens.far) → spot_depth o < 2 ^ 32 - 1
far_enough lens None far within = omega arith
far_enough lens (Some s) far within = omega (arith, within s refl, far)

-- no record is deeper than far
pub depth_of_within : (b : List ℕ) (view : View) (i : ℕ) → view.camera.far < 2 ^ 32 - 1 → depth_of b view i < 2 ^ 32 - 1
unfolding depth_of
depth_of_within b view i far = far_enough view.camera (spot view.camera _) far (λ s is. (spot_within view.camera _ s is).no_deeper)

counted : (b cs : List ℕ) (view : View) (x y i : ℕ) (o : Option ℕ) → Shows b cs view x y o → o ≡ Some i → i < record_count b
counted b cs view x y i None shows is = absurd (cc is)
counted b cs view x y i (Some j) shows is = let e : j ≡ i = cc is in omega (arith, shows.counts, e)

-- the nearest record is one of the survey's
pub nearest_counts : (b cs : List ℕ) (view : View) (x y i : ℕ) → nearest b cs view x y ≡ Some i → i < record_count b
nearest_counts b cs view x y i is = counted b cs view x y i (nearest b cs view x y) (nearest_shows b cs view x y) is

-- the word of a pixel's nearest record gives the record back
pub record_in-nearest : (b cs : List ℕ) (view : View) (x y : ℕ) → view.camera.far < 2 ^ 32 - 1 → record_count b ≤ 2 ^ 32 → record_in (word_of (depth_of b view) (nearest b cs view x y)) ≡ nearest b cs view x y
record_in-nearest b cs view x y far few =
    record_in-word_of (depth_of b view) (nearest b cs view x y) (λ i is. (omega (arith, nearest_counts b cs view x y i is, few), depth_of_within b view i far))

-- in a frame each pixel's word names the record that shows there
pub frame_names : (b cs : List ℕ) (view : View) (words : List ℕ) → view.camera.far < 2 ^ 32 - 1 → record_count b ≤ 2 ^ 32 → IsFrame b cs view words → NamesNearest b cs view words
frame_names b cs view words far few frame = λ x y across down.
    subst (λ (o : Option ℕ). Shows b cs view x y o) (sym (ap record_in (frame.each x y across down) ∙ record_in-nearest b cs view x y far few)) (nearest_shows b cs view x y)
