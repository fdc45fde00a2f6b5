-- A name that is known is entered.
use Rattle.std.proofs.Common.{ℕ, Bool, true, false, ◌&&◌, List, Option, Some, None, IsTrue, IsSome, unwrap_or, refl}
use Rattle.std.specs.BTreeMap.{get_by_text}
use Rattle.std.proofs.lemmas.Bool.{false≢true}
use Rattle.view_ends.specs.declared.ledger.Counts.{Counts}
use Rattle.view_ends.specs.declared.ledger.Ledger.{Ledger}
use Rattle.view_ends.specs.Ledger.{nothing_counted, counts_of, IsEntered}

some_if_known : (o : Option Counts) → IsTrue (unwrap_or o nothing_counted).known → IsSome o
some_if_known None known = absurd (false≢true known)
some_if_known (Some counts) known = refl

pub entered_if_known : (ledger : Ledger) (name : List ℕ) → IsTrue (counts_of ledger name).known → IsEntered ledger name
entered_if_known ledger name known = some_if_known (get_by_text ledger.counts name) known

pub known_and_filed : (known filed : Bool) → IsTrue (known && filed) → IsTrue known × IsTrue filed
known_and_filed true true both = (refl, refl)
known_and_filed true false both = absurd (false≢true both)
known_and_filed false filed both = absurd (false≢true both)
