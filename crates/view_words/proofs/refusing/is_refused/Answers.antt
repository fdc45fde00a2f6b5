use Rattle.std.proofs.Common.{◌∙◌, sym, rules}
use Rattle.view_words.specs.declared.kind.WordKind.TheVariants.{Command, ReadName, WrittenName, Workers, Start, Records, NoWord}
use Rattle.view_words.specs.CommandLine.{texts}
use Rattle.view_words.proofs.Refusals.{is_refused-kind}
use Rattle.view_words.proofs.ViewPart.{view_word_before}
use Rattle.view_words.proofs.refusing.is_refused.Goals as goal

pub returns-in-Command : goal.returns-in-Command
returns-in-Command c = sym (is_refused-kind c.args.row (texts c.args.words.now) c.args.at Command (sym c.kind_at.ensures ∙ c.in-Command.is))

pub returns-in-NoWord : goal.returns-in-NoWord
returns-in-NoWord c = sym (is_refused-kind c.args.row (texts c.args.words.now) c.args.at NoWord (sym c.kind_at.ensures ∙ c.in-NoWord.is))

pub returns-in-Workers : goal.returns-in-Workers
returns-in-Workers c =
    rw (is_refused-kind c.args.row (texts c.args.words.now) c.args.at Workers (sym c.kind_at.ensures ∙ c.in-Workers.is)) (search rules)

pub returns-in-Start : goal.returns-in-Start
returns-in-Start c =
    rw (is_refused-kind c.args.row (texts c.args.words.now) c.args.at Start (sym c.kind_at.ensures ∙ c.in-Start.is)) (search rules)

pub returns-in-Records : goal.returns-in-Records
returns-in-Records c =
    rw (is_refused-kind c.args.row (texts c.args.words.now) c.args.at Records (sym c.kind_at.ensures ∙ c.in-Records.is)) (search rules)

pub unreachable-requires : goal.unreachable-requires
unreachable-requires c = view_word_before c.args.row c.args.at c.in-ViewWord.field-0 c.requires.before_view (sym c.kind_at.ensures ∙ c.in-ViewWord.is)

pub returns-in-ReadName : goal.returns-in-ReadName
returns-in-ReadName c =
    rw (is_refused-kind c.args.row (texts c.args.words.now) c.args.at ReadName (sym c.kind_at.ensures ∙ c.in-ReadName.is)) (search rules)

pub returns-in-WrittenName : goal.returns-in-WrittenName
returns-in-WrittenName c =
    rw (is_refused-kind c.args.row (texts c.args.words.now) c.args.at WrittenName (sym c.kind_at.ensures ∙ c.in-WrittenName.is)) (search rules)
