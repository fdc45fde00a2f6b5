-- The words of a view as a part of those of a `draw`.
use Rattle.std.proofs.Common.{◌≡◌, ℕ, zero, suc, ◌+◌, ◌-◌, ◌<◌, ◌≤◌, List, [], ◌∷◌, Option, Some, None, Ok, Err, OnOk, Bool, true, false, cond, eqb, length, drop, take, map, inl, inr, refl, sym, ◌∙◌, ap, arith, length-drop}
use Rattle.std.proofs.lemmas.Bool.{cases_lt, ne_eqb}
use Rattle.std.proofs.lemmas.Bool.Decides.{nat_tests}
use Rattle.std.proofs.lemmas.List.{get_or-drop, get_or-take}
use Rattle.std.specs.List.{list_any}
use Rattle.std.specs.Option.{option_map_or, option_map}
use Rattle.std.specs.Prelude.{not, ◌==◌, ◌&&◌, nat_le, slice_index_or, unwrap_or, Result, String, string_bytes}
use Rattle.view_base.specs.declared.colour.Colouring.TheVariants.{Class}
use Rattle.view_base.specs.Fitting.{word_at, fitting, misfit}
use Rattle.view_meaning.specs.Picture.{View}
use Rattle.view_text.specs.declared.fault.TextFault.{TextFault}
use Rattle.view_text.specs.declared.fault.TextFault.TheVariants.{Line, Limit}
use Rattle.view_text.specs.ViewWords.{fits, fits_filter, kind, colouring, camera_numbers, filter_at, fitting_view, view_of}
use Rattle.int_camera.specs.declared.numbers.CameraLimit.{CameraLimit}
use Rattle.int_camera.specs.declared.numbers.Kind.TheVariants.{Ortho}
use Rattle.int_camera.specs.Limits.{first_outside, lens_of, projection_of}
use Rattle.view_words.specs.declared.row.Row.{Row}
use Rattle.view_words.specs.declared.row.Row.TheVariants.{Draw, Info, Trial, Serve}
use Rattle.view_words.specs.declared.kind.WordKind.{WordKind}
use Rattle.view_words.specs.declared.kind.WordKind.TheVariants.{ViewWord, NoWord}
use Rattle.view_words.specs.CommandLine.{kinds, kind_at, is_refused, badword_in, badword, IsLine, texts, drawn_view, draw_of}
use Rattle.view_words.specs.Parts.{IsBeforeView, refused_at}
use Rattle.view_words.proofs.Places.{neither}
use Rattle.view_words.proofs.RowPlaces.{kind_at-past, kind_at-view}
use Rattle.view_words.proofs.Refusals.{is_refused-kind}
use Rattle.view_words.proofs.Lines.{length-texts, texts-from}

-- words that fit a test from one place on as they fit another test from another place on
fitting-as : (f g : ℕ → List ℕ → Bool) (ws : List (List ℕ)) (from at : ℕ) → ((k : ℕ) → k < length ws → f (from + k) (word_at ws k) ≡ g (at + k) (word_at ws k)) → fitting f from ws ≡ fitting g at ws
fitting-as f g [] from at same = refl
fitting-as f g (word ∷ others) from at same =
    let here : f from word ≡ g at word = ap (λ (n : ℕ). f n word) (omega arith) ∙ same 0 (omega arith) ∙ ap (λ (n : ℕ). g n word) (omega arith) in
    let more = fitting-as f g others (from + 1) (at + 1) (λ k within. ap (λ (n : ℕ). f n (word_at others k)) (omega arith) ∙ same (suc k) (omega (arith, within)) ∙ ap (λ (n : ℕ). g n (word_at others k)) (omega arith)) in
    rw (here, more) refl

-- words whose first ones fit
fitting-after : (f : ℕ → List ℕ → Bool) (ws : List (List ℕ)) (from n : ℕ) → n ≤ length ws → ((k : ℕ) → k < n → f (from + k) (word_at ws k) ≡ true) → fitting f from ws ≡ n + fitting f (from + n) (drop n ws)
fitting-after f ws from zero within first =
    let same : from + 0 ≡ from = omega arith in
    let none : 0 + fitting f from ws ≡ fitting f from ws = omega arith in
    rw (same, none) refl
fitting-after f [] from (suc n) within first = absurd (omega (arith, within))
fitting-after f (word ∷ others) from (suc n) within first =
    let here : f from word ≡ true = ap (λ (k : ℕ). f k word) (omega arith) ∙ first 0 (omega arith) in
    let more = fitting-after f others (from + 1) n (omega (arith, within)) (λ k below. ap (λ (m : ℕ). f m (word_at others k)) (omega arith) ∙ first (suc k) (omega (arith, below))) in
    let place : from + 1 + n ≡ from + suc n = omega arith in
    rw (here, more, place) (omega arith)

-- no more words fit than there are places
fitting-few : (f : ℕ → List ℕ → Bool) (ws : List (List ℕ)) (from n : ℕ) → ((word : List ℕ) → f (from + n) word ≡ false) → fitting f from ws ≤ n
fitting-few f [] from n last = omega arith
fitting-few f (word ∷ others) from zero last =
    let same : from + 0 ≡ from = omega arith in
    rw (rw same at (last word)) (omega arith)
fitting-few f (word ∷ others) from (suc n) last =
    let more = fitting-few f others (from + 1) n (λ word. ap (λ (m : ℕ). f m word) (omega arith) ∙ last word) in
    counted (f from word) (fitting f (from + 1) others) n more
  where
    counted : (here : Bool) (m n : ℕ) → m ≤ n → cond here (1 + m) 0 ≤ suc n
    counted true m n few = omega (arith, few)
    counted false m n few = omega arith

fits-last : (word : List ℕ) → fits 22 word ≡ false
unfolding fits fits_filter
fits-last word = refl

found_few : (b : Bool) (n at most : ℕ) → n ≤ most → cond b None (Some n) ≡ Some at → at ≤ most
found_few true n at most few is = absurd (cc is)
found_few false n at most few is = let same : n ≡ at = cc is in omega (arith, same, few)

misfit_few : (ws : List (List ℕ)) (at : ℕ) → misfit fits (λ count. count == 22) ws ≡ Some at → at ≤ 22
unfolding misfit
misfit_few ws at is =
    found_few (eqb (fitting fits 0 ws) (length ws) && length ws == 22) (fitting fits 0 ws) at 22 (fitting-few fits ws 0 22 fits-last) is

past_place : (ws : List (List ℕ)) (k : ℕ) → 22 ≤ k → is_refused (kind_at Draw (4 + k)) Draw ws (4 + k) ≡ true
past_place ws k past = is_refused-kind Draw ws (4 + k) NoWord (kind_at-past Draw (4 + k) (omega (arith, past)))

past_fits : (k : ℕ) (word : List ℕ) → 22 ≤ k → fits k word ≡ false
unfolding fits fits_filter
past_fits k word past =
    let far : nat_le k 18 ≡ false = grind (arith, nat_tests) in
    rw (ne_eqb k 0 (omega arith), far, ne_eqb k 19 (omega arith), ne_eqb (k - 20) 0 (omega arith), ne_eqb (k - 20) 1 (omega arith)) refl

not_not : (b : Bool) → not (not b) ≡ b
not_not true = refl
not_not false = refl

-- a view word is accepted where it fits its place in a view
view_word : (ws : List (List ℕ)) (k : ℕ) → not (is_refused (kind_at Draw (4 + k)) Draw ws (4 + k)) ≡ fits k (word_at (drop 4 ws) k)
view_word ws k =
    elim (cases_lt k 22) [
      | inl within ↦
          ap not (is_refused-kind Draw ws (4 + k) (ViewWord k) (kind_at-view k within)) ∙ not_not (fits k (word_at ws (4 + k))) ∙ ap (fits k) (sym (get_or-drop 4 ws k []))
      | inr past ↦ ap not (past_place ws k past) ∙ sym (past_fits k (word_at (drop 4 ws) k) past)
    ]

-- a `draw` whose words before the view fit is refused for the view's
pub badword_in-draw : (ws : List (List ℕ)) → 4 ≤ length ws → ((k : ℕ) → k < 4 → is_refused (kind_at Draw k) Draw ws k ≡ false) → badword_in Draw ws ≡ option_map (λ at. 4 + at) (misfit fits (λ count. count == 22) (drop 4 ws))
unfolding badword_in misfit
badword_in-draw ws long first =
    let zero_and : (n : ℕ) → 0 + n ≡ n = λ n. omega arith in
    let accepts : ℕ → List ℕ → Bool = λ k word. not (is_refused (kind_at Draw k) Draw ws k) in
    let after = fitting-after accepts ws 0 4 long (λ k below. rw (zero_and k) (ap not (first k below))) in
    let same = fitting-as accepts fits (drop 4 ws) 4 0 (λ k within. view_word ws k ∙ ap (λ (n : ℕ). fits n (word_at (drop 4 ws) k)) (sym (zero_and k))) in
    let size : length (drop 4 ws) ≡ length ws - 4 = length-drop 4 ws in
    rw (after, same, size) (counted (fitting fits 0 (drop 4 ws)) (length ws) long)
  where
    mapped : (b : Bool) (n : ℕ) → cond b None (Some (4 + n)) ≡ option_map (λ at. 4 + at) (cond b None (Some n))
    mapped true n = refl
    mapped false n = refl

    counted : (n size : ℕ) → 4 ≤ size → cond (4 + n == size && size == 26) None (Some (4 + n)) ≡ option_map (λ at. 4 + at) (cond (n == size - 4 && size - 4 == 22) None (Some n))
    counted n size long =
        let tests : (4 + n == size && size == 26) ≡ (n == size - 4 && size - 4 == 22) = grind (arith, nat_tests) in
        ap (λ (b : Bool). cond b None (Some (4 + n))) tests ∙ mapped (n == size - 4 && size - 4 == 22) n

abbrev is_view : WordKind → Bool
is_view (ViewWord place) = true
is_view _ = false

-- kinds of which none is that of a view word
none_view : (xs : List WordKind) (k place : ℕ) → list_any is_view xs ≡ false → slice_index_or xs k NoWord ≡ ViewWord place → ⊥
none_view [] k place none is = absurd (cc is)
none_view (x ∷ xs) zero place none is = absurd (cc ((neither (is_view x) (list_any is_view xs) none).0, ap is_view is))
none_view (x ∷ xs) (suc k) place none is = none_view xs k place (neither (is_view x) (list_any is_view xs) none).1 is

-- no view word stands before the view
pub view_word_before : (row : Row) (k place : ℕ) → IsBeforeView row k → kind_at row k ≡ ViewWord place → ⊥
unfolding kind_at
view_word_before Draw k place before is =
    let here : slice_index_or (kinds Draw) k NoWord ≡ ViewWord place = is in
    none_view (take 4 (kinds Draw)) k place refl (get_or-take 4 (kinds Draw) k NoWord (before refl) ∙ here)
view_word_before Info k place before is = none_view (kinds Info) k place refl is
view_word_before Trial k place before is = none_view (kinds Trial) k place refl is
view_word_before Serve k place before is = none_view (kinds Serve) k place refl is

pub drawn_view-refused : (ws : List (List ℕ)) (at : ℕ) → badword_in Draw ws ≡ Some at → drawn_view ws ≡ Err (Line at)
unfolding drawn_view
drawn_view-refused ws at is = rw is refl

-- words that fit are refused for none of them
fitting_view-refused : (ws : List (List ℕ)) → refused_at (fitting_view ws) ≡ None
fitting_view-refused ws = none (first_outside (projection_of (unwrap_or (kind (word_at ws 0)) Ortho)) (camera_numbers ws)) (record { camera = lens_of (projection_of (unwrap_or (kind (word_at ws 0)) Ortho)) (camera_numbers ws); colouring = unwrap_or (colouring (word_at ws 19)) Class; filter = filter_at ws 20 })
  where
    none : (o : Option CameraLimit) (view : View) → refused_at (option_map_or (λ limit. Err (Limit limit)) o (Ok view)) ≡ None
    none None view = refl
    none (Some limit) view = refl

-- what a view's words are as those of a `draw`, where a view begins at place 4
abbrev pub moved : Result View TextFault → Result View TextFault
moved (Ok view) = Ok view
moved (Err (Line at)) = Err (Line (4 + at))
moved (Err (Limit limit)) = Err (Limit limit)

moved-fitting : (view : Result View TextFault) → refused_at view ≡ None → moved view ≡ view
moved-fitting (Ok view) none = refl
moved-fitting (Err (Line at)) none = absurd (cc none)
moved-fitting (Err (Limit limit)) none = refl

moved-read : (o fault : Option ℕ) (view : Result View TextFault) → o ≡ option_map (λ at. 4 + at) fault → refused_at view ≡ None
    → option_map_or (λ at. Err (Line at)) o view ≡ moved (option_map_or (λ at. Err (Line at)) fault view)
moved-read o None view is none = rw is (sym (moved-fitting view none))
moved-read o (Some at) view is none = rw is refl

-- the view of a `draw` whose words before the view fit is that of the view's words
pub drawn_view-moved : (ws : List (List ℕ)) → 4 ≤ length ws → ((k : ℕ) → k < 4 → is_refused (kind_at Draw k) Draw ws k ≡ false) → drawn_view ws ≡ moved (view_of (drop 4 ws))
unfolding drawn_view view_of
drawn_view-moved ws long first = moved-read (badword_in Draw ws) (misfit fits (λ count. count == 22) (drop 4 ws)) (fitting_view (drop 4 ws)) (badword_in-draw ws long first) (fitting_view-refused (drop 4 ws))

-- the first word of a view that does not fit stands at most at place 22
pub view_of-few : (ws : List (List ℕ)) (at : ℕ) → view_of ws ≡ Err (Line at) → at ≤ 22
unfolding view_of
view_of-few ws at is = few (misfit fits (λ count. count == 22) ws) (fitting_view ws) (fitting_view-refused ws) (λ k found. misfit_few ws k found) (ap refused_at is)
  where
    few : (o : Option ℕ) (view : Result View TextFault) → refused_at view ≡ None → ((k : ℕ) → o ≡ Some k → k ≤ 22) → refused_at (option_map_or (λ at. Err (Line at)) o view) ≡ Some at → at ≤ 22
    few None view none bound is = absurd (cc (is, none))
    few (Some k) view none bound is = bound at is

-- what was read from place 4 on
pub view_of-read : {Y : Type 0} (words : List (String Y)) (read : Result View TextFault) → 4 ≤ length words → read ≡ view_of (map string_bytes (take (length words - 4) (drop 4 words))) → read ≡ view_of (drop 4 (texts words))
view_of-read words read long is = is ∙ ap view_of (texts-from words long)

pub drawn_view-read : {Y : Type 0} (words : List (String Y)) (read : Result View TextFault) → 4 ≤ length words → read ≡ view_of (map string_bytes (take (length words - 4) (drop 4 words)))
    → ((k : ℕ) → k < 4 → is_refused (kind_at Draw k) Draw (texts words) k ≡ false) → moved read ≡ drawn_view (texts words)
drawn_view-read words read long is first = ap moved (view_of-read words read long is) ∙ sym (drawn_view-moved (texts words) (omega (arith, long, length-texts words)) first)

-- the refused word of a `draw` is that of its view
pub badword_in-drawn : (ws : List (List ℕ)) (asked : Result View TextFault) → asked ≡ drawn_view ws → badword_in Draw ws ≡ refused_at asked
unfolding drawn_view
badword_in-drawn ws asked is = refused (badword_in Draw ws) (fitting_view (drop 4 ws)) (fitting_view-refused (drop 4 ws)) ∙ ap refused_at (sym is)
  where
    refused : (o : Option ℕ) (view : Result View TextFault) → refused_at view ≡ None → o ≡ refused_at (option_map_or (λ at. Err (Line at)) o view)
    refused None view none = sym none
    refused (Some at) view none = refl

pub draw_of-refused : (ws : List (List ℕ)) (at : ℕ) → badword (Draw ∷ []) ws ≡ Some at → draw_of ws ≡ Err (Line at)
unfolding draw_of
draw_of-refused ws at is = rw is refl

pub draw_of-begun : (ws : List (List ℕ)) → badword (Draw ∷ []) ws ≡ badword_in Draw ws → draw_of ws ≡ drawn_view ws
unfolding draw_of drawn_view
draw_of-begun ws begun = rw begun refl

-- what is asked for by words that are those of a `draw`, or aren't
pub draw_of-each : (ws : List (List ℕ)) → ((at : ℕ) → draw_of ws ≡ Err (Line at) → badword (Draw ∷ []) ws ≡ Some at) × ((asked : Result View TextFault) → draw_of ws ≡ asked → refused_at asked ≡ None → IsLine Draw ws × (asked ≡ fitting_view (drop 4 ws)))
unfolding draw_of
draw_of-each ws = (refused (badword (Draw ∷ []) ws) (fitting_view (drop 4 ws)) (fitting_view-refused (drop 4 ws)), λ asked is none. line (badword (Draw ∷ []) ws) (fitting_view (drop 4 ws)) asked is none)
  where
    refused : (o : Option ℕ) (view : Result View TextFault) → refused_at view ≡ None → (at : ℕ) → option_map_or (λ at. Err (Line at)) o view ≡ Err (Line at) → o ≡ Some at
    refused None view none at is = let line = ap refused_at is in absurd (cc (line, none))
    refused (Some found) view none at is = ap refused_at is

    line : (o : Option ℕ) (view asked : Result View TextFault) → option_map_or (λ at. Err (Line at)) o view ≡ asked → refused_at asked ≡ None → (o ≡ None) × (asked ≡ view)
    line None view asked is none = (refl, sym is)
    line (Some at) view asked is none = let line = ap refused_at is in absurd (cc (line, none))

-- a view is asked for by the words of a `draw` alone
pub draw_of-line : (ws : List (List ℕ)) (asked : Result View TextFault) → asked ≡ draw_of ws → OnOk asked (IsLine Draw ws)
draw_of-line ws (Ok view) is = ((draw_of-each ws).1 (Ok view) (sym is) refl).0
draw_of-line ws (Err fault) is = tt
