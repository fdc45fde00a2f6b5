use Rattle.std.proofs.Common.{◌≡◌, rules, List, [], ℕ}
use Rattle.view_meaning.specs.Picture.{can_colour, picture}
use Rattle.view_meaning.specs.Classes.{classes}
use Rattle.view_commands.specs.Texts.{colour_refusal}
use Rattle.view_commands.proofs.Drawn.{colour_refusal-has, colour_refusal-lacks}
use Rattle.view_commands.proofs.Written.{text-none, text-refused, text-written}
use Rattle.view_commands.proofs.drawing.draw_file.Goals as goal

pub returns-in-Err : goal.returns-in-Err
returns-in-Err g c = text-none _ _ _ _ _ (colour_refusal c.args.view.now) (λ (b : List ℕ). picture b (classes b []) c.args.view.now) _ c.in-Err.ensures.refused

pub returns-then-not-can_colour : goal.returns-then-not-can_colour
returns-then-not-can_colour g c =
    let told : c.can_colour.result ≡ can_colour c.header.result.now.format c.args.view.now.colouring = search rules in
    text-refused _ _ _ _ _ (colour_refusal c.args.view.now) (λ (b : List ℕ). picture b (classes b []) c.args.view.now) c.in-Ok.survey _ (colour_refusal-lacks c.in-Ok.survey c.args.view.now _ _ c.header.ensures.fields.format told c.if-not-can_colour.true) c.in-Ok.ensures.laid c.in-Ok.ensures.read c.in-Ok.ensures.took

pub returns-in-Ok-picture_of : goal.returns-in-Ok-picture_of
returns-in-Ok-picture_of g c =
    let told : c.can_colour.result ≡ can_colour c.header.result.now.format c.args.view.now.colouring = search rules in
    text-written _ _ _ _ _ _ (colour_refusal c.args.view.now) (λ (b : List ℕ). picture b (classes b []) c.args.view.now) c.in-Ok.survey c.as_slice.result.now _ (search rules) (colour_refusal-has c.in-Ok.survey c.args.view.now _ _ c.header.ensures.fields.format told c.if-not-can_colour.false) c.in-Ok.ensures.laid c.in-Ok.ensures.read c.in-Ok.ensures.took c.write_text.ensures.written c.write_text.ensures.only
