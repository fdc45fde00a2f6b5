use Rattle.std.proofs.Common.{◌≡◌, ◌≤◌, ◌<◌, ◌+◌, ◌∷◌, List, ℕ, length, sym, ap, subst, ◌∙◌, arith}
use Rattle.view_base.specs.Cursor.{words_from, last_position}
use Rattle.view_base.specs.declared.cursor.WordsOf.{WordsOf}
use Rattle.view_base.specs.declared.cursor.WordsOf.TheVariants.{Separate}
use Rattle.view_base.proofs.Reading.{listed-next}
use Rattle.view_base.proofs.cursor.word_from.Goals as goal

pub returns-else-at-list-clause-word : goal.returns-else-at-list-clause-word
returns-else-at-list-clause-word c =
    let list = c.in-Separate.list.now in
    let least : c.args.at ≤ length list = subst (λ (s : WordsOf). c.args.at ≤ last_position s) c.in-Separate.is c.requires in
    let inside : c.args.at < length list = omega (arith, c.if-at-list.false) in
    subst (λ (s : WordsOf). words_from s c.args.at ≡ c.as_bytes.result.now ∷ words_from s (c.args.at + 1)) (sym c.in-Separate.is)
    (listed-next list c.args.at c.index-list-at.result inside c.index-list-at.is ∙ ap (λ (word : List ℕ). word ∷ words_from (Separate c.in-Separate.list) (c.args.at + 1)) (sym c.as_bytes.ensures.value))
