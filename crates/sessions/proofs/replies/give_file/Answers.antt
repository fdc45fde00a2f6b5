use Rattle.std.proofs.Common.{◌≡◌, ◌∙◌, ◌++◌, List, ℕ, length, ap}
use Rattle.std.specs.Prelude.{codes}
use Rattle.std.proofs.lemmas.List.{nil_from_length}
use Rattle.view_meaning.specs.Classes.{saved}
use Rattle.sessions.specs.Session.{head, with_length}
use Rattle.sessions.proofs.Parts.{file_parts, part_first, part_second}
use Rattle.sessions.proofs.replies.give_file.Goals as goal

pub returns-in_err-give_all-clause-part : goal.returns-in_err-give_all-clause-part
returns-in_err-give_all-clause-part g c =
    let b = c.args.survey.now in
    let cs = c.args.classes.now in
    let v = c.args.version in
    let begins : c.as_slice.result.now ≡ head (codes "FILE") v (length c.bytes.result.now) =
    c.as_slice.ensures ∙ c.append_head.ensures ∙ ap (λ (l : List ℕ). l ++ head (codes "FILE") v (length c.bytes.result.now)) (nil_from_length c.args.out.now.items c.requires.empty) in
    part_first _ _ c.as_slice.result.now (saved b cs) (with_length (codes "FILE") v (saved b cs)) _ (file_parts b cs c.bytes.result.now c.as_slice.result.now v c.bytes.ensures.bytes begins) c.in_err-give_all.ensures.part

pub returns-clause-part : goal.returns-clause-part
returns-clause-part g c =
    let b = c.args.survey.now in
    let cs = c.args.classes.now in
    let v = c.args.version in
    let begins : c.as_slice.result.now ≡ head (codes "FILE") v (length c.bytes.result.now) =
    c.as_slice.ensures ∙ c.append_head.ensures ∙ ap (λ (l : List ℕ). l ++ head (codes "FILE") v (length c.bytes.result.now)) (nil_from_length c.args.out.now.items c.requires.empty) in
    part_second _ _ _ c.as_slice.result.now (saved b cs) (with_length (codes "FILE") v (saved b cs)) _ (file_parts b cs c.bytes.result.now c.as_slice.result.now v c.bytes.ensures.bytes begins) c.in_ok-give_all.ensures.given c.write_survey.ensures.part
