use Rattle.std.proofs.Common.{◌≡◌, ◌+◌, not, length, drop, arith}
use Rattle.std.specs.List.{position_or_len}
use Rattle.view_base.specs.Text.{is_blank}
use Rattle.view_base.proofs.Words.{next_place, next_words, no_words, all_blank, place_found, place_missed}
use Rattle.view_base.proofs.text.next_word.Goals as goal

pub returns-in_err-start-clause-blank : goal.returns-in_err-start-clause-blank
returns-in_err-start-clause-blank c =
    rw c.from_residual.ensures (all_blank _ _ (place_missed _ c.args.line.now c.args.at _ c.first_letter.ensures c.in_err-start.was))

pub returns-in_err-start-clause-wordless : goal.returns-in_err-start-clause-wordless
returns-in_err-start-clause-wordless c =
    rw c.from_residual.ensures (no_words _ _ (place_missed _ c.args.line.now c.args.at _ c.first_letter.ensures c.in_err-start.was))

pub returns-in-Some-clause-place : goal.returns-in-Some-clause-place
returns-in-Some-clause-place c =
    let line = c.args.line.now in
    let start = c.args.at + c.in_ok-start.field-0 in
    let begins = place_found _ line c.args.at _ _ c.first_letter.ensures c.in_ok-start.was in
    let ends = place_found _ line start _ _ c.first_blank.ensures c.in-Some.is in
    next_place line c.args.at start (start + c.in-Some.length) (omega arith) (omega (arith, begins.0)) (omega (arith, begins.1)) (omega (arith, ends.0))

pub returns-in-Some-clause-word : goal.returns-in-Some-clause-word
returns-in-Some-clause-word c =
    let line = c.args.line.now in
    let start = c.args.at + c.in_ok-start.field-0 in
    let begins = place_found _ line c.args.at _ _ c.first_letter.ensures c.in_ok-start.was in
    let ends = place_found _ line start _ _ c.first_blank.ensures c.in-Some.is in
    let from_start : start ≡ c.args.at + position_or_len (λ c. not (is_blank c)) (drop c.args.at line) = omega (arith, begins.0) in
    let to_end : start + c.in-Some.length ≡ start + position_or_len is_blank (drop start line) = omega (arith, ends.0) in
    next_words line c.args.at start (start + c.in-Some.length) from_start (next_place line c.args.at start _ (omega arith) from_start (omega (arith, begins.1)) to_end).some to_end

pub returns-in-None-clause-place : goal.returns-in-None-clause-place
returns-in-None-clause-place c =
    let line = c.args.line.now in
    let start = c.args.at + c.in_ok-start.field-0 in
    let begins = place_found _ line c.args.at _ _ c.first_letter.ensures c.in_ok-start.was in
    let ends = place_missed _ line start _ c.first_blank.ensures c.in-None.is in
    next_place line c.args.at start (length line) (omega arith) (omega (arith, begins.0)) (omega (arith, begins.1)) (omega (arith, ends))

pub returns-in-None-clause-word : goal.returns-in-None-clause-word
returns-in-None-clause-word c =
    let line = c.args.line.now in
    let start = c.args.at + c.in_ok-start.field-0 in
    let begins = place_found _ line c.args.at _ _ c.first_letter.ensures c.in_ok-start.was in
    let ends = place_missed _ line start _ c.first_blank.ensures c.in-None.is in
    let from_start : start ≡ c.args.at + position_or_len (λ c. not (is_blank c)) (drop c.args.at line) = omega (arith, begins.0) in
    let to_end : length line ≡ start + position_or_len is_blank (drop start line) = omega (arith, begins.1, ends) in
    next_words line c.args.at start (length line) from_start (omega (arith, begins.1)) to_end
