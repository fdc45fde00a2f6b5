use Rattle.std.proofs.Common.{◌≡◌, ◌+◌, ◌*◌, ◌∙◌, List, ℕ, length, subst}
use Rattle.std.proofs.lemmas.List.{length-map}
use Rattle.std.specs.Arc.{arc_value}
use Rattle.std.specs.Prelude.{string_bytes}
use Rattle.view_ends.specs.Desk.{Said}
use Rattle.view_words.specs.CommandLine.{texts}
use Rattle.view_commands.specs.Steps.{ServesIn}
use Rattle.view_commands.specs.Texts.{IsReadWhole, NoSurvey, OnlyTook}
use Rattle.view_commands.proofs.Serves.{serves-in, serves-memory, serves-none}
use Rattle.view_commands.proofs.serving.serve.Goals as goal

pub returns-in-Err : goal.returns-in-Err
returns-in-Err g c =
    let pairs : length (texts c.args.words.now) ≡ 4 + 2 * c.pair_count-count.result = length-map c.args.words.now string_bytes ∙ c.pair_count-count.ensures.count in
    let none = subst (λ (name : List ℕ). NoSurvey g.D.Desk.tells (g.D.Desk.says c.args.desk.now) (g.D.Desk.says c.read_survey.new.desk) name c.in-Err.status) c.text_at.ensures c.in-Err.ensures.refused in
    serves-none _ _ _ (texts c.args.words.now) c.pair_count-count.result c.in-Err.status c.only.result c.requires.line pairs c.only.ensures.status c.only.ensures.told none

pub returns-in-Err-make_room : goal.returns-in-Err-make_room
returns-in-Err-make_room g c =
    let old : Said = g.D.Desk.says c.args.desk.now in
    let mid : Said = g.D.Desk.says c.read_survey.new.desk in
    let pairs : length (texts c.args.words.now) ≡ 4 + 2 * c.pair_count-count.result = length-map c.args.words.now string_bytes ∙ c.pair_count-count.ensures.count in
    let read = subst (λ (name : List ℕ). IsReadWhole g.D.Desk.tells old mid name c.in-Ok.survey) c.text_at.ensures c.in-Ok.ensures.read in
    let took = subst (λ (name : List ℕ). OnlyTook old mid name) c.text_at.ensures c.in-Ok.ensures.took in
    serves-memory _ _ _ (texts c.args.words.now) c.in-Ok.survey c.pair_count-count.result c.only-in-Err-make_room.result c.requires.line pairs c.in-Ok.ensures.laid read took c.only-in-Err-make_room.ensures.status c.only-in-Err-make_room.ensures.told

pub returns-in-Ok-make_room : goal.returns-in-Ok-make_room
returns-in-Ok-make_room g c =
    let old : Said = g.D.Desk.says c.args.desk.now in
    let mid : Said = g.D.Desk.says c.read_survey.new.desk in
    let new : Said = g.D.Desk.says c.serve_in.new.desk in
    let pairs : length (texts c.args.words.now) ≡ 4 + 2 * c.pair_count-count.result = length-map c.args.words.now string_bytes ∙ c.pair_count-count.ensures.count in
    let read = subst (λ (name : List ℕ). IsReadWhole g.D.Desk.tells old mid name c.in-Ok.survey) c.text_at.ensures c.in-Ok.ensures.read in
    let took = subst (λ (name : List ℕ). OnlyTook old mid name) c.text_at.ensures c.in-Ok.ensures.took in
    let served = subst (λ (b : List ℕ). ServesIn g.D.Desk.tells mid new (texts c.args.words.now) b c.serve_in.result) c.in-Ok-make_room.ensures.survey c.serve_in.ensures in
    serves-in _ _ mid _ (texts c.args.words.now) c.in-Ok.survey c.pair_count-count.result c.serve_in.result c.requires.line pairs c.in-Ok.ensures.laid read took served
