-- The lines of a trial, read and answered one after another.
use Rattle.std.proofs.Common.{◌≡◌, ℕ, List, [], ◌∷◌, ◌++◌, length, Ok, refl, sym, ap, ◌∙◌, arith, append_assoc}
use Rattle.std.specs.Prelude.{codes, pos}
use Rattle.std.specs.List.{flat_map}
use Rattle.std.proofs.lemmas.List.{append-nil}
use Rattle.class_bits.specs.ClassSet.{class_list, item_range}
use Rattle.edit_ops.specs.EditLine as edit_line
use Rattle.edit_ops.specs.EditLine.{coordinate, edit_of}
use Rattle.int_camera.specs.Limits.{first_outside, is_outside}
use Rattle.sessions.specs.Session.{Item, reply, replies}
use Rattle.sessions.specs.declared.drawing.Scene.{Scene}
use Rattle.sessions.proofs.Later.{reply-append}
use Rattle.survey_make.proofs.Pieces.{append_4}
use Rattle.version_store.specs.Histories.{journal}
use Rattle.version_store.specs.Store.{Stored}
use Rattle.view_base.specs.Fitting.{misfit}
use Rattle.view_base.specs.Text.{words, digits, number}
use Rattle.view_lines.specs.Command.{command_of}
use Rattle.view_lines.specs.declared.command.Command.TheVariants.{Edit}
use Rattle.view_meaning.specs.Classes as meaning
use Rattle.view_meaning.specs.Classes.{all_classes}
use Rattle.view_text.specs.ViewWords as view_words
use Rattle.view_text.specs.ViewWords.{kind, colouring, hides, fits_filter, filter_at, camera_numbers, view_of, filter_of}
use Rattle.view_commands.specs.Trial.{script, script_replies, edits_in}
use Rattle.view_commands.specs.Steps.{Answers, CanAnswer, IsStage}
use Rattle.view_commands.specs.declared.script.TheConstants.{FORMAT}

-- the lines
abbrev pub from_above : List ℕ
from_above = codes "view ortho 256 256 32768 32768 0 1 0 0 0 1 0 0 0 1 256 1 0 65535 class all show"

abbrev pub reclassify : List ℕ
reclassify = codes "edit 0 0 0 65535 65535 1023 all 2"

abbrev pub in_perspective : List ℕ
in_perspective = codes "view persp 256 256 32768 32768 -65536 1 0 0 0 1 0 0 0 1 128 16 1 65535 intensity all hide"

abbrev pub count : List ℕ
count = codes "count 2 show"

-- what they are as items
script-lines : script ≡ command_of (words from_above) FORMAT ∷ command_of (words reclassify) FORMAT ∷ command_of (words in_perspective) FORMAT ∷ command_of (words count) FORMAT ∷ []
unfolding script
script-lines = refl

-- the first and the third are views, and the last a count, so a trial may answer them, and they publish nothing
abbrev IsShown : Item → Type 0
IsShown item = CanAnswer item × (edits_in item ≡ [])

pub shows-from_above : IsShown (command_of (words from_above) FORMAT)
unfolding command_of words view_of misfit view_words.fits kind number digits colouring fits_filter class_list hides filter_at camera_numbers first_outside is_outside
shows-from_above = (tt, refl)

pub shows-in_perspective : IsShown (command_of (words in_perspective) FORMAT)
unfolding command_of words view_of misfit view_words.fits kind number digits colouring fits_filter class_list hides filter_at camera_numbers first_outside is_outside
shows-in_perspective = (tt, refl)

pub shows-count : IsShown (command_of (words count) FORMAT)
unfolding command_of words filter_of misfit digits fits_filter class_list item_range hides filter_at
shows-count = (tt, refl)

-- and the second is an edit
unfoldable script_edit : meaning.Edit
script_edit = record {
  area = record { min = record { x = pos 0; y = pos 0; z = pos 0 }; max = record { x = pos 65535; y = pos 65535; z = pos 1023 } };
  from = all_classes;
  to = 2;
}

command_of-reclassify : command_of (words reclassify) FORMAT ≡ Ok (Edit script_edit)
unfolding script_edit command_of words edit_of misfit edit_line.fits coordinate number digits class_list
command_of-reclassify = refl

-- so they publish that edit alone
edits-script : flat_map edits_in script ≡ script_edit ∷ []
edits-script =
    ap (λ (items : List Item). flat_map edits_in items) script-lines
    ∙ joined (edits_in (command_of (words from_above) FORMAT)) (edits_in (command_of (words reclassify) FORMAT)) (edits_in (command_of (words in_perspective) FORMAT)) (edits_in (command_of (words count) FORMAT))
    shows-from_above.1 (ap edits_in command_of-reclassify) shows-in_perspective.1 shows-count.1
  where
    joined : (first second third fourth : List meaning.Edit) → first ≡ [] → second ≡ script_edit ∷ [] → third ≡ [] → fourth ≡ []
        → first ++ (second ++ (third ++ (fourth ++ []))) ≡ script_edit ∷ []
    joined first second third fourth one two three four = rw (one, two, three, four) refl

pub can_answer-reclassify : CanAnswer (command_of (words reclassify) FORMAT)
can_answer-reclassify = rw command_of-reclassify tt

-- the store after a line, over which the next may be answered
pub stage-next : (scene : Scene) (old new : Stored) (item : Item) (before after : List ℕ) → IsStage scene old → Answers old new item before after → IsStage scene new
stage-next scene old new item before after stage answered = record {
  scene_is = stage.scene_is;
  bytes = answered.bytes ∙ stage.bytes;
  format = rw answered.bytes stage.format;
  legal = answered.legal;
}

-- a reply, where the edits are known
replied-with : (b : List ℕ) (edits : List meaning.Edit) (old new : Stored) (item : Item) (before after : List ℕ) → new.bytes ≡ b → journal new.history ≡ edits → Answers old new item before after
    → after ≡ before ++ reply b edits item (length edits)
replied-with b edits old new item before after bytes is answered =
    answered.replied
    ∙ ap (λ (l : List ℕ). before ++ reply l (journal new.history) item (length (journal new.history))) bytes
    ∙ ap (λ (l : List meaning.Edit). before ++ reply b l item (length l)) is

-- the replies to four lines of which the second publishes an edit
replies-four : (b : List ℕ) (edit : meaning.Edit) (first second third fourth : Item) (s0 s1 s2 s3 s4 : Stored) (o0 o1 o2 o3 o4 : List ℕ)
    → s0.bytes ≡ b → s0.history ≡ [] → edits_in first ≡ [] → edits_in second ≡ edit ∷ [] → edits_in third ≡ [] → edits_in fourth ≡ []
    → Answers s0 s1 first o0 o1 → Answers s1 s2 second o1 o2 → Answers s2 s3 third o2 o3 → Answers s3 s4 fourth o3 o4
    → o4 ≡ o0 ++ replies b (edit ∷ []) (first ∷ second ∷ third ∷ fourth ∷ []) (0 ∷ 1 ∷ 1 ∷ 1 ∷ [])
unfolding replies journal
replies-four b edit first second third fourth s0 s1 s2 s3 s4 o0 o1 o2 o3 o4 bytes new one two three four a1 a2 a3 a4 =
    let one_edit = edit ∷ [] in
    let j1 : journal s1.history ≡ [] = a1.edits ∙ ap (λ (l : List meaning.Edit). journal s0.history ++ l) one ∙ append-nil (journal s0.history) ∙ ap journal new in
    let j2 : journal s2.history ≡ one_edit = a2.edits ∙ ap (λ (l : List meaning.Edit). journal s1.history ++ l) two ∙ ap (λ (l : List meaning.Edit). l ++ one_edit) j1 in
    let j3 : journal s3.history ≡ one_edit = a3.edits ∙ ap (λ (l : List meaning.Edit). journal s2.history ++ l) three ∙ append-nil (journal s2.history) ∙ j2 in
    let j4 : journal s4.history ≡ one_edit = a4.edits ∙ ap (λ (l : List meaning.Edit). journal s3.history ++ l) four ∙ append-nil (journal s3.history) ∙ j3 in
    let b1 : s1.bytes ≡ b = a1.bytes ∙ bytes in
    let b2 : s2.bytes ≡ b = a2.bytes ∙ b1 in
    let b3 : s3.bytes ≡ b = a3.bytes ∙ b2 in
    let b4 : s4.bytes ≡ b = a4.bytes ∙ b3 in
    let r1 : o1 ≡ o0 ++ reply b one_edit first 0 = replied-with b [] s0 s1 first o0 o1 b1 j1 a1 ∙ ap (λ (l : List ℕ). o0 ++ l) (sym (reply-append b [] one_edit first 0 (omega arith))) in
    let r2 : o2 ≡ o1 ++ reply b one_edit second 1 = replied-with b one_edit s1 s2 second o1 o2 b2 j2 a2 in
    let r3 : o3 ≡ o2 ++ reply b one_edit third 1 = replied-with b one_edit s2 s3 third o2 o3 b3 j3 a3 in
    let r4 : o4 ≡ o3 ++ reply b one_edit fourth 1 = replied-with b one_edit s3 s4 fourth o3 o4 b4 j4 a4 in
    let r = reply b one_edit in
    append_4 o0 o1 o2 o3 o4 (r first 0) (r second 1) (r third 1) (r fourth 1) r1 r2 r3 r4
    ∙ ap (λ (l : List ℕ). o0 ++ l)
    (append_assoc (r first 0 ++ r second 1) (r third 1) (r fourth 1) ∙ append_assoc (r first 0) (r second 1) (r third 1 ++ r fourth 1)
    ∙ ap (λ (l : List ℕ). r first 0 ++ (r second 1 ++ (r third 1 ++ l))) (sym (append-nil (r fourth 1))))

-- the replies to the lines of a trial
pub script_replies-given : (b : List ℕ) (s0 s1 s2 s3 s4 : Stored) (o0 o1 o2 o3 o4 : List ℕ) → s0.bytes ≡ b → s0.history ≡ []
    → Answers s0 s1 (command_of (words from_above) FORMAT) o0 o1 → Answers s1 s2 (command_of (words reclassify) FORMAT) o1 o2
    → Answers s2 s3 (command_of (words in_perspective) FORMAT) o2 o3 → Answers s3 s4 (command_of (words count) FORMAT) o3 o4
    → o4 ≡ o0 ++ script_replies b
unfolding script_replies
script_replies-given b s0 s1 s2 s3 s4 o0 o1 o2 o3 o4 bytes new a1 a2 a3 a4 =
    replies-four b script_edit _ _ _ _ s0 s1 s2 s3 s4 o0 o1 o2 o3 o4 bytes new shows-from_above.1 (ap edits_in command_of-reclassify) shows-in_perspective.1 shows-count.1 a1 a2 a3 a4
    ∙ ap (λ (items : List Item). o0 ++ replies b (script_edit ∷ []) items (0 ∷ 1 ∷ 1 ∷ 1 ∷ [])) (sym script-lines)
    ∙ ap (λ (edits : List meaning.Edit). o0 ++ replies b edits script (0 ∷ 1 ∷ 1 ∷ 1 ∷ [])) (sym edits-script)
