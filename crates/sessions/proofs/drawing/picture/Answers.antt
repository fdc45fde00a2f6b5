use Rattle.std.proofs.Common.{◌≡◌, ◌<◌, ◌≤◌, ◌-◌, ◌^◌, ◌∙◌, ◌++◌, All, List, ℕ, ap, subst, arith, append_assoc, rules}
use Rattle.std.specs.List.{flat_map}
use Rattle.std.specs.Arc.{arc_value}
use Rattle.view_meaning.specs.Survey.{record_count}
use Rattle.view_meaning.specs.Picture.{View, picture, ppm_header}
use Rattle.view_meaning.specs.Frame.{IsFrame, word_colour}
use Rattle.view_meaning.proofs.Colours.{picture-words}
use Rattle.min_frame.proofs.Crossing.{frame_words_sync}
use Rattle.resolve_colour.specs.Names.{NamesOne}
use Rattle.sessions.proofs.Lengths.{length-picture}
use Rattle.sessions.proofs.Shown.{appended-shows_nearest}
use Rattle.sessions.proofs.Naming.{frame_names_records}
use Rattle.sessions.proofs.drawing.picture.Goals as goal

-- a header and the colours of a frame's words, after what was there, are the picture after it
picture-appended : (b same cs : List ℕ) (inside view : View) (words old room headed new : List ℕ) (width height : ℕ) → same ≡ b → inside ≡ view → width ≡ inside.camera.width → height ≡ inside.camera.height
    → room ≡ old → headed ≡ room ++ ppm_header width height → new ≡ headed ++ flat_map (word_colour same cs inside.colouring) words
    → view.camera.far < 2 ^ 32 - 1 → record_count same ≤ 2 ^ 32 → IsFrame same cs view words → new ≡ old ++ picture b cs view
picture-appended b same cs inside view words old room headed new width height is seen wide high kept begins made far few frame =
    let colours = flat_map (word_colour same cs view.colouring) words in
    made ∙ ap (λ (v : View). headed ++ flat_map (word_colour same cs v.colouring) words) seen
    ∙ ap (λ (l : List ℕ). l ++ colours) (begins ∙ ap (λ (l : List ℕ). l ++ ppm_header width height) kept)
    ∙ append_assoc old (ppm_header width height) colours
    ∙ ap (λ (k : ℕ). old ++ (ppm_header k height ++ colours)) (wide ∙ ap (λ (v : View). v.camera.width) seen)
    ∙ ap (λ (k : ℕ). old ++ (ppm_header view.camera.width k ++ colours)) (high ∙ ap (λ (v : View). v.camera.height) seen)
    ∙ ap (λ (l : List ℕ). old ++ l) (picture-words same cs view words far few frame ∙ ap (λ (l : List ℕ). picture l cs view) is)

-- the words of a closed frame are read by all workers
pub colours-requires-sync-W : goal.colours-requires-sync-W
colours-requires-sync-W g c κs within = record { shared = frame_words_sync.shared }

pub colours-requires-clause-names : goal.colours-requires-clause-names
colours-requires-clause-names g c =
    let wide : 1 ≤ c.args.view.now.camera.width = subst (λ (v : View). 1 ≤ v.camera.width) c.view.view_is (omega (arith, c.width.ensures)) in
    let names : All (NamesOne (record_count c.deref-survey.result.now)) c.in_ok-words.words =
    frame_names_records c.deref-survey.result.now c.args.classes.now c.args.view.now c.in_ok-words.words wide c.in_ok-words.ensures.words c.in_ok-words.ensures.nearest in
    search rules

pub returns-clause-drawn : goal.returns-clause-drawn
returns-clause-drawn g c =
    picture-appended (arc_value c.args.scene.now.survey) c.deref-survey.result.now c.args.classes.now (record { camera = c.view.inside.camera; colouring = c.view.inside.colouring; filter = c.view.inside.filter }) c.args.view.now c.in_ok-words.words c.args.out.now.items _ _ _ _ _
    c.deref-survey.ensures c.view.view_is c.width.ensures.value c.height.ensures.value c.in_ok-reserve.ensures.same c.ppm_header.ensures.appended c.colours.ensures
    (omega (arith, c.in_ok-words.ensures.shallow)) (omega (arith, c.in_ok-words.ensures.few)) c.in_ok-words.ensures.words

pub returns-clause-nearest : goal.returns-clause-nearest
returns-clause-nearest g c = appended-shows_nearest (arc_value c.args.scene.now.survey) c.args.classes.now c.args.out.now.items c.colours.new.out.items c.args.view.now (returns-clause-drawn g c)

pub returns-clause-size : goal.returns-clause-size
returns-clause-size g c = length-picture (arc_value c.args.scene.now.survey) c.args.classes.now c.args.view.now
