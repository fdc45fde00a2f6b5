-- Colours of records, and of words one after another.
use borrow.Rule.Slice.PartMut.{put_mid}
use Rattle.std.proofs.Common.{◌≡◌, [], ◌∷◌, ◌/◌, min, ◌<◌, ◌≤◌, ◌*◌, ◌-◌, ◌^◌, ◌%◌, ◌==◌, ◌++◌, List, length, length-append, take, drop, replicate, slice_index, append_assoc, take_all, take_at, drop_at, take-add, drop-drop, get_or-drop, ◌+◌, ◌∙◌, ℕ, Bool, false, Option, Some, None, IfSome, if◌then◌else◌, ap, subst, sym, arith, refl}
use Rattle.std.proofs.Math.Seq.{take-append_seam, drop-append_seam}
use Rattle.std.proofs.lemmas.Bool.Decides.{nat_tests}
use Rattle.std.proofs.lemmas.List.{append-nil, drop_all, drop-replicate, length-drop, length-replicate, take_more}
use Rattle.std.proofs.lemmas.Grind.{flat_map-append}
use Rattle.std.specs.List.{flat_map}
use Rattle.std.specs.Option.{option_map}
use Rattle.view_base.specs.declared.colour.Rgb.{Rgb}
use Rattle.view_base.specs.declared.colour.Colouring.TheVariants.{Rgb16, Rgb8, Intensity}
use Rattle.view_meaning.specs.Survey.{format_of, record_at, rgb_place, rgb_at, intensity_of}
use Rattle.view_meaning.specs.Picture.{channels, rgb_colour, grey, colour}
use Rattle.view_meaning.specs.Frame.{record_in}
use Rattle.resolve_colour.specs.Names.{NamesOne, part}

-- a word that is not all ones names a record
pub record_in-named : (word : ℕ) → (word ≡ 2 ^ 64 - 1 → ⊥) → record_in word ≡ Some (word % 2 ^ 32)
record_in-named word full = let no : (word == 2 ^ 64 - 1) ≡ false = grind (arith, nat_tests) in ap (λ (b : Bool). if b then None else Some (word % 2 ^ 32)) no

pub named_below : (count word : ℕ) → (word ≡ 2 ^ 64 - 1 → ⊥) → NamesOne count word → word % 2 ^ 32 < count
named_below count word full names = subst (λ (o : Option ℕ). IfSome o (λ i. i < count)) (record_in-named word full) names

-- a record of a format that has RGB shows by it
pub rgb_colour-some : (rule : ℕ → ℕ) (b : List ℕ) (i : ℕ) (rgb : Rgb) (place : Option ℕ) → Some rgb ≡ option_map (λ at. rgb_at b (record_at b i + at)) place
    → channels rule rgb ≡ rgb_colour rule b i place
rgb_colour-some rule b i rgb None is = absurd (cc is)
rgb_colour-some rule b i rgb (Some place) is = let same : rgb ≡ rgb_at b (record_at b i + place) = cc is in ap (channels rule) same

three : (a b c x y z : ℕ) → a ≡ x → b ≡ y → c ≡ z → ◌≡◌ {A = List ℕ} (a ∷ b ∷ c ∷ []) (x ∷ y ∷ z ∷ [])
three a b c x y z first second third = cc (first, second, third)

-- three bytes that each are a rule of a channel, where the colouring is by that rule
pub channels-each : (rule : ℕ → ℕ) (rgb : Rgb) (red green blue : ℕ) (shown : List ℕ) → red ≡ rule rgb.red → green ≡ rule rgb.green → blue ≡ rule rgb.blue
    → channels rule rgb ≡ shown → ◌≡◌ {A = List ℕ} (red ∷ green ∷ blue ∷ []) shown
channels-each rule rgb red green blue shown first second third is = three red green blue (rule rgb.red) (rule rgb.green) (rule rgb.blue) first second third ∙ is

pub colour-rgb16 : (b cs : List ℕ) (i : ℕ) → rgb_colour (λ n. n / 256) b i (rgb_place (format_of b)) ≡ colour b cs Rgb16 i
unfolding colour
colour-rgb16 b cs i = refl

pub colour-rgb8 : (b cs : List ℕ) (i : ℕ) → rgb_colour (λ n. min n 255) b i (rgb_place (format_of b)) ≡ colour b cs Rgb8 i
unfolding colour
colour-rgb8 b cs i = refl

pub colour-intensity : (b cs : List ℕ) (i n : ℕ) → n ≡ intensity_of b i / 256 → grey n ≡ colour b cs Intensity i
unfolding colour
colour-intensity b cs i n is = ap grey is

-- a filling of bytes 0 at a list's end
pub tail_length : (old whole : List ℕ) (n m : ℕ) → whole ≡ old ++ replicate m 0 → n ≡ length old → length (drop n whole) ≡ m
tail_length old whole n m is at =
    ap (λ (k : ℕ). length (drop k whole)) at ∙ (ap (λ (l : List ℕ). length (drop (length old) l)) is ∙ (ap length (drop-append_seam old (replicate m 0)) ∙ length-replicate m 0))

-- a list whose filling of bytes 0 was written over
pub tail_written : (old whole colours : List ℕ) (n m : ℕ) → whole ≡ old ++ replicate m 0 → n ≡ length old → length colours ≡ m
    → take (length whole) (take n whole ++ colours ++ drop (length colours) (drop n whole)) ≡ old ++ colours
tail_written old whole colours n m is at size =
    let filled : List ℕ = replicate m 0 in
    let long : length filled ≡ m = length-replicate m 0 in
    let front : take n whole ≡ old = ap (λ (k : ℕ). take k whole) at ∙ (ap (take (length old)) is ∙ take-append_seam old filled) in
    let back : drop n whole ≡ filled = ap (λ (k : ℕ). drop k whole) at ∙ (ap (drop (length old)) is ∙ drop-append_seam old filled) in
    let none : drop (length colours) (drop n whole) ≡ [] = ap (drop (length colours)) back ∙ drop_all (length colours) filled (omega (arith, size, long)) in
    let parts : take n whole ++ colours ++ drop (length colours) (drop n whole) ≡ old ++ colours =
    ap (λ (l : List ℕ). l ++ colours ++ drop (length colours) (drop n whole)) front
    ∙ (ap (λ (l : List ℕ). old ++ colours ++ l) none ∙ append-nil (old ++ colours)) in
    ap (take (length whole)) parts
    ∙ take_all (length whole) (old ++ colours) (omega (arith, length-append old colours, length-append old filled, ap length is, size, long))

-- a filling of bytes 0 at a list's end, alone
pub tail_black : (old whole : List ℕ) (n m : ℕ) → whole ≡ old ++ replicate m 0 → n ≡ length old → drop n whole ≡ replicate m 0
tail_black old whole n m is at = ap (λ (k : ℕ). drop k whole) at ∙ (ap (drop (length old)) is ∙ drop-append_seam old (replicate m 0))

-- one more word, whose bytes were written over the first that are black
pub coloured_more : (f : ℕ → List ℕ) (ws cs painted : List ℕ) (first count i word : ℕ) → first + i < length ws → i < count → word ≡ slice_index ws (first + i) → painted ≡ f word → length painted ≡ 3
    → length (flat_map f (take i (drop first ws))) ≡ 3 * i → cs ≡ flat_map f (take i (drop first ws)) ++ replicate (3 * (count - i)) 0
    → (length (flat_map f (take (i + 1) (drop first ws))) ≡ 3 * (i + 1))
    × (put_mid (3 * i) (3 * i + 3 - 3 * i) cs painted ≡ flat_map f (take (i + 1) (drop first ws)) ++ replicate (3 * (count - (i + 1))) 0)
coloured_more f ws cs painted first count i word inside below read is three long filled =
    let others : List ℕ = drop first ws in
    let done : List ℕ = flat_map f (take i others) in
    let black : List ℕ = replicate (3 * (count - i)) 0 in
    let k : ℕ = 3 * i + 3 - 3 * i in
    let low : i < length others = omega (arith, inside, length-drop first ws) in
    let same : slice_index others i ≡ word = get_or-drop first ws i 0 ∙ sym read in
    let next : flat_map f (take (i + 1) others) ≡ done ++ painted =
    ap (flat_map f) (take_more others i 0 low ∙ ap (λ (n : ℕ). take i others ++ n ∷ []) same) ∙ flat_map-append f (take i others) (word ∷ [])
    ∙ ap (λ (l : List ℕ). done ++ l) (append-nil (f word) ∙ sym is) in
    let front : take (3 * i) cs ≡ done = ap (take (3 * i)) filled ∙ take_at done black (3 * i) long in
    let left : 3 * (count - i) - k ≡ 3 * (count - (i + 1)) = omega (arith, below) in
    let back : drop k (drop (3 * i) cs) ≡ replicate (3 * (count - (i + 1))) 0 =
    ap (drop k) (ap (drop (3 * i)) filled ∙ drop_at done black (3 * i) long) ∙ drop-replicate k (3 * (count - i)) 0 ∙ ap (λ (n : ℕ). replicate n 0) left in (
      omega (arith, ap length next, length-append done painted, long, three),
      ap (λ (l : List ℕ). l ++ (painted ++ drop k (drop (3 * i) cs))) front ∙ ap (λ (l : List ℕ). done ++ (painted ++ l)) back
          ∙ sym (append_assoc done painted (replicate (3 * (count - (i + 1))) 0)) ∙ ap (λ (l : List ℕ). l ++ replicate (3 * (count - (i + 1))) 0) (sym next),
    )

-- two parts that follow each other
pub part-split : (ws : List ℕ) (first middle end : ℕ) → first ≤ middle → middle ≤ end → part first end ws ≡ part first middle ws ++ part middle end ws
part-split ws first middle end low high =
    let sizes : end - first ≡ (middle - first) + (end - middle) = omega (arith, low, high) in
    let place : first + (middle - first) ≡ middle = omega (arith, low) in
    ap (λ (n : ℕ). take n (drop first ws)) sizes ∙ take-add (middle - first) (end - middle) (drop first ws)
    ∙ ap (λ (l : List ℕ). take (middle - first) (drop first ws) ++ take (end - middle) l) (drop-drop (middle - first) first ws ∙ ap (λ (n : ℕ). drop n ws) place)

-- what is written for two parts that follow each other
pub coloured_parts : (f : ℕ → List ℕ) (ws front back : List ℕ) (first middle end : ℕ) → front ≡ flat_map f (part first middle ws) → back ≡ flat_map f (part middle end ws)
    → first ≤ middle → middle ≤ end → front ++ back ≡ flat_map f (part first end ws)
coloured_parts f ws front back first middle end is after low high =
    ap (λ (l : List ℕ). l ++ back) is ∙ ap (λ (l : List ℕ). flat_map f (part first middle ws) ++ l) after
    ∙ sym (flat_map-append f (part first middle ws) (part middle end ws)) ∙ ap (flat_map f) (sym (part-split ws first middle end low high))

-- the whole list is its one part
pub part-whole : (ws : List ℕ) (n : ℕ) → n ≡ length ws → part 0 n ws ≡ ws
part-whole ws n long = take_all (n - 0) ws (omega (arith, long))
