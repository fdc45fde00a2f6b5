-- What a session was told holds in every longer history.
use Rattle.std.proofs.Common.{◌≡◌, ℕ, suc, ◌-◌, ◌≤◌, List, [], ◌∷◌, ◌++◌, length, take, drop, Option, Some, None, Ok, Err, refl, sym, ap, ◌∙◌, arith}
use Rattle.std.specs.Prelude.{codes}
use Rattle.std.proofs.lemmas.List.{take-append-le, take-append-drop, take_at, length-take, get_or-take}
use mathlib.Core.List.{IsPrefix}
use Rattle.turn_gate.specs.Meaning.{Passed, made_by}
use Rattle.turn_gate.proofs.Beginnings.{prefix_nil, prefix_trans}
use Rattle.view_meaning.specs.Classes as meaning
use Rattle.view_meaning.specs.Classes.{changed, classes, passing, saved}
use Rattle.view_meaning.specs.Picture.{picture}
use Rattle.view_lines.specs.declared.command.Command.TheVariants.{View, Edit, Count, Save}
use Rattle.version_store.specs.declared.history.Entry.{Entry}
use Rattle.version_store.specs.Histories.{journal, numbered}
use Rattle.version_store.specs.Sharing.{maker, IsOwn}
use Rattle.version_store.proofs.HistoryLaws.{journal-append}
use Rattle.version_store.proofs.SharedCalls.{entries_by-later}
use Rattle.sessions.specs.declared.end.Reason.{Reason}
use Rattle.sessions.specs.declared.end.Reason.TheVariants.{Finished, ReadFault, SessionLimit, WriteFault, Memory}
use Rattle.sessions.specs.Session.{Item, version, head, with_length, reply, replies, GotMost, Got, Served}
use Rattle.sessions.specs.Worlds.{HasGivenBack}
use Rattle.sessions.proofs.News.{news-same}
use Rattle.sessions.proofs.Tales.{AreWithin, tale_within}

-- a version does not change where more edits are published
pub version-append : (b : List ℕ) (edits more : List meaning.Edit) (v : ℕ) → v ≤ length edits → version b (edits ++ more) v ≡ version b edits v
unfolding version
version-append b edits more v old = ap (λ (front : List meaning.Edit). classes b front) (take-append-le v edits more old)

-- nor does a reply
pub reply-append : (b : List ℕ) (edits more : List meaning.Edit) (item : Item) (v : ℕ) → v ≤ length edits → reply b (edits ++ more) item v ≡ reply b edits item v
unfolding reply
reply-append b edits more (Ok (View view)) v old = ap (λ (cs : List ℕ). with_length (codes "PICTURE") v (picture b cs view)) (version-append b edits more v old)
reply-append b edits more (Ok (Edit edit)) v old =
    ap (λ (cs : List ℕ). head (codes "EDITED") v (changed cs (version b (edits ++ more) v))) (version-append b edits more (v - 1) (omega arith))
    ∙ ap (λ (cs : List ℕ). head (codes "EDITED") v (changed (version b edits (v - 1)) cs)) (version-append b edits more v old)
reply-append b edits more (Ok (Count filter)) v old = ap (λ (cs : List ℕ). head (codes "COUNT") v (passing b cs filter)) (version-append b edits more v old)
reply-append b edits more (Ok Save) v old = ap (λ (cs : List ℕ). with_length (codes "FILE") v (saved b cs)) (version-append b edits more v old)
reply-append b edits more (Err refusal) v old = refl

pub replies-more_edits : (b : List ℕ) (edits more : List meaning.Edit) (items : List Item) (marks : List ℕ) → AreWithin marks (length edits)
    → replies b (edits ++ more) items marks ≡ replies b edits items marks
unfolding replies
replies-more_edits b edits more [] marks old = refl
replies-more_edits b edits more (item ∷ items) [] old = refl
replies-more_edits b edits more (item ∷ items) (v ∷ marks) old =
    let first : v ≤ length edits = old 0 (omega arith) in
    ap (λ (text : List ℕ). text ++ replies b (edits ++ more) items marks) (reply-append b edits more item v first)
    ∙ ap (λ (text : List ℕ). reply b edits item v ++ text) (replies-more_edits b edits more items marks (λ k inside. old (suc k) (omega arith)))

-- the beginning of a list, in two ways
pub begun : (h0 h : List Entry) → take (length h0) h ≡ h0 → IsPrefix h0 h
begun h0 h front = (drop (length h0) h, ap (λ (l : List Entry). l ++ drop (length h0) h) (sym front) ∙ take-append-drop (length h0) h)

pub take_begun : (h0 h : List Entry) → IsPrefix h0 h → take (length h0) h ≡ h0
take_begun h0 h begins = ap (take (length h0)) (sym begins.1) ∙ take_at h0 begins.0 (length h0) refl

-- the replies at versions of a journal are those over each longer one
pub replies-later : (b : List ℕ) (edits later : List meaning.Edit) (items : List Item) (marks : List ℕ) → IsPrefix edits later → AreWithin marks (length edits)
    → replies b later items marks ≡ replies b edits items marks
replies-later b edits later items marks begins old =
    ap (λ (l : List meaning.Edit). replies b l items marks) (sym begins.1) ∙ replies-more_edits b edits begins.0 items marks old

-- the published edits of a history begin those of a longer one
pub journal-later : (h later : List Entry) → IsPrefix h later → IsPrefix (journal h) (journal later)
journal-later h later begins = (journal begins.0, sym (journal-append h begins.0) ∙ ap journal begins.1)

within_take : (marks : List ℕ) (n k : ℕ) → AreWithin marks n → AreWithin (take k marks) n
within_take marks n k within i inside =
    rw (get_or-take k marks i 0 (omega (arith, length-take k marks))) (within i (omega (arith, length-take k marks)))

most_later : (b : List ℕ) (edits later : List meaning.Edit) (items : List Item) (marks : List ℕ) (old new : Option (List ℕ)) → IsPrefix edits later → AreWithin marks (length edits)
    → GotMost b edits items marks old new → GotMost b later items marks old new
most_later b edits later items marks None new begins within got = tt
most_later b edits later items marks (Some all) new begins within got =
    rw (
      replies-later b edits later items marks begins within,
      replies-later b edits later (take (length items - 1) items) (take (length marks - 1) marks) begins (within_take marks (length edits) (length marks - 1) within),
    ) got

pub got_later : (b : List ℕ) (edits later : List meaning.Edit) (items : List Item) (marks : List ℕ) (old new : Option (List ℕ)) (reason : Reason) → IsPrefix edits later → AreWithin marks (length edits)
    → Got b edits items marks old new reason → Got b later items marks old new reason
got_later b edits later items marks old new Finished begins within got = rw (replies-later b edits later items marks begins within) got
got_later b edits later items marks old new ReadFault begins within got = rw (replies-later b edits later items marks begins within) got
got_later b edits later items marks old new SessionLimit begins within got = rw (replies-later b edits later items marks begins within) got
got_later b edits later items marks old new WriteFault begins within got = most_later b edits later items marks old new begins within got
got_later b edits later items marks old new Memory begins within got = most_later b edits later items marks old new begins within got

-- a session that was served was served in every longer history in which it made no more entries
pub Served-later : (b : List ℕ) (h0 h later : List Entry) (who : ℕ) (left old new : Option (List ℕ)) (marks : List ℕ) (reason : Reason) (taken : ℕ)
    → Served b h0 h who left old new marks reason taken → IsPrefix h later → made_by maker who h ≡ made_by maker who later
    → Served b h0 later who left old new marks reason taken
Served-later b h0 h later who left old new marks reason taken served begins same =
    let first : IsPrefix h0 h = begun h0 h served.begins in
    record {
      input = served.input;
      items = served.items;
      input_is = served.input_is;
      processed = served.processed;
      one = served.one;
      begins = take_begun h0 later (prefix_trans h0 h later first begins);
      makes = rw (news-same who h0 h later first begins (entries_by-later who h later begins same)) served.makes;
      rising = served.rising;
      newer = served.newer;
      got = got_later b (journal h) (journal later) served.items marks old new reason (journal-later h later begins) (tale_within h0 h who served.items marks served.makes) served.got;
    }

-- a caller that has made no entry has given each of its pins back
pub HasGivenBack-new : (pass : Passed Entry) → IsOwn pass → pass.mine ≡ [] → HasGivenBack pass.seen pass.who
unfolding numbered
HasGivenBack-new pass own none v =
    let same = entries_by-later pass.who [] pass.seen (prefix_nil pass.seen) (sym none ∙ sym own.own) in
    rw same refl
