use Rattle.std.proofs.Common.{◌≡◌, ◌+◌, ◌∙◌, ℕ, List, Some, sym, ap, subst}
use Rattle.view_base.specs.Cursor.{all_words}
use Rattle.view_base.specs.Fitting.{word_at}
use Rattle.view_text.specs.ViewWords.{hides}
use Rattle.view_text.proofs.Views.{filter_at-read}
use Rattle.view_text.proofs.reading.read_filter_words.Goals as goal

pub returns-clause-filter : goal.returns-clause-filter
returns-clause-filter g c =
    let ws = all_words c.args.rest.now.source in
    let place = c.args.rest.now.place in
    let said : hides (word_at ws (place + 1)) ≡ Some c.in_ok-hide_withheld.hide_withheld =
    rw (c.in_ok-classes.ensures.source, c.in_ok-classes.ensures.place) at c.in_ok-hide_withheld.ensures.value in
    filter_at-read ws place c.in_ok-classes.classes c.in_ok-hide_withheld.hide_withheld c.in_ok-classes.ensures.value said
