-- What a session has listened to when it ends, by why it ends.
use Rattle.std.proofs.Common.{◌≡◌, ℕ, ◌+◌, ◌≤◌, List, [], ◌++◌, length, take, Option, Some, None, IfSome, Result, Ok, Err, OnOk, OnErr, is_err, true, false, min, refl, sym, ap, subst, ◌∙◌, inl, inr, arith, length-append}
use Rattle.std.proofs.lemmas.List.{append-nil, append_assoc, take_all, length-take, take-append-le}
use Rattle.std.proofs.Math.Seq.{take-append_seam}
use Rattle.view_ends.specs.Ends.{Leaves, IsSpent}
use Rattle.view_ends.specs.declared.fault.EndFault.{EndFault}
use Rattle.view_ends.specs.declared.fault.EndFault.TheVariants as fault
use Rattle.view_meaning.specs.Classes as meaning
use Rattle.view_meaning.specs.Survey.{format_of}
use Rattle.sessions.specs.declared.serving.TheConstants.{INPUT_LIMIT}
use Rattle.sessions.specs.declared.end.Reason.{Reason}
use Rattle.sessions.specs.declared.end.Reason.TheVariants.{Finished, ReadFault, SessionLimit, Memory}
use Rattle.sessions.specs.declared.pending.Pending.{Pending}
use Rattle.sessions.specs.Session.{Item, commands, whole, replies, MayProcess, Makes, GotMost, Got, Served}
use Rattle.version_store.specs.declared.history.Entry.{Entry}
use Rattle.version_store.specs.Histories.{journal}
use Rattle.sessions.specs.Talk.{Talk, Start, IsAnswering, GaveUp}
use Rattle.sessions.specs.Hearing.{HasHeard}
use Rattle.sessions.specs.Listening.{Listened, reason_of}
use Rattle.sessions.specs.Worlds.{HasGivenBack}
use Rattle.sessions.proofs.Processing.{AreFirstOf}
use Rattle.sessions.proofs.Processing.{processed_one}
use Rattle.sessions.proofs.News.{drop-numbered}
use Rattle.sessions.proofs.Later.{take_begun}
use Rattle.sessions.proofs.Tales.{given_back_after}

-- what was taken begins the input, where it is told
told_input : (old now : Option (List ℕ)) (t : List ℕ) → Leaves old t now → (rest : List ℕ) × IfSome old (λ all. all ≡ t ++ rest)
told_input None now t h = ([], tt)
told_input (Some all) now t h = (h.0, h.2)

-- what was taken is the input where it ended
told_end : (old now : Option (List ℕ)) (t : List ℕ) → Leaves old t now → IsSpent now → IfSome old (λ all. all ≡ t)
told_end None now t h ended = tt
told_end (Some all) now t h ended =
    let none : h.0 ≡ [] = subst IsSpent h.1 ended in
    h.2 ∙ ap (λ u. t ++ u) none ∙ append-nil t

-- more was taken
pub leaves_more : (old mid now : Option (List ℕ)) (t s : List ℕ) → Leaves old t mid → Leaves mid s now → Leaves old (t ++ s) now
leaves_more None mid now t s h more = tt
leaves_more (Some all) mid now t s h more =
    let after : Leaves (Some h.0) s now = subst (λ u. Leaves u s now) h.1 more in
    (after.0, after.1, h.2 ∙ ap (λ u. t ++ u) after.2 ∙ sym (append_assoc t s after.0))

-- the part of an input that a session may process
abbrev within : List ℕ → ℕ → List ℕ
within input taken = take (min taken INPUT_LIMIT) input

within_is : (t rest : List ℕ) (taken : ℕ) → min taken INPUT_LIMIT ≡ length t → within (t ++ rest) taken ≡ t
within_is t rest taken h = rw h (take-append_seam t rest)

within_all : (t : List ℕ) (taken : ℕ) → length t ≡ taken → taken ≤ INPUT_LIMIT → within t taken ≡ t
within_all t taken many few = take_all (min taken INPUT_LIMIT) t (omega arith)

-- its input failed
pub listened_fault : (b t : List ℕ) (talk : Talk) (pending : Pending) (start : Start) (left mid now : Option (List ℕ)) (taken : ℕ) → length t ≡ taken → taken ≤ INPUT_LIMIT → Leaves left t mid → HasHeard b t talk pending start now → Listened b talk start left now ReadFault taken
listened_fault b t talk pending start left mid now taken many few taken_off h =
    let told = told_input left mid t taken_off in
    record {
      input = t ++ told.0;
      items = commands (format_of b) t;
      input_is = told.1;
      allowed = record {
        came = omega (arith, length-append t told.0);
        limit = ((λ e. absurd cc), (λ e. absurd (omega arith)));
        few = omega arith;
        items_are = ap (commands (format_of b)) (sym (within_is t told.0 taken (omega arith)));
      };
      processed = h.answering.processed;
      got = h.answering.got;
    }

-- its input has too many bytes
pub listened_limit : (b t more : List ℕ) (talk : Talk) (pending : Pending) (start : Start) (left mid now : Option (List ℕ)) (taken : ℕ) → length t ≡ INPUT_LIMIT → length more ≡ 1 → taken ≡ INPUT_LIMIT + 1 → Leaves left (t ++ more) mid → HasHeard b t talk pending start now → Listened b talk start left now SessionLimit taken
listened_limit b t more talk pending start left mid now taken many one past taken_off h =
    let told = told_input left mid (t ++ more) taken_off in
    record {
      input = t ++ more ++ told.0;
      items = commands (format_of b) t;
      input_is = told.1;
      allowed = record {
        came = omega (arith, length-append t more, length-append (t ++ more) told.0);
        limit = ((λ e. past), (λ e. refl));
        few = omega arith;
        items_are = ap (commands (format_of b)) (sym (rw (append_assoc t more told.0) (within_is t (more ++ told.0) taken (omega arith))));
      };
      processed = h.answering.processed;
      got = h.answering.got;
    }

-- its input was read to the end, and each line was answered
listened_end : (b t : List ℕ) (talk : Talk) (start : Start) (left mid now : Option (List ℕ)) (taken : ℕ) → length t ≡ taken → taken ≤ INPUT_LIMIT → Leaves left t mid → IsSpent mid → IsAnswering b (whole (format_of b) t) talk start now → Listened b talk start left now Finished taken
listened_end b t talk start left mid now taken many few taken_off ended h = record {
  input = t;
  items = whole (format_of b) t;
  input_is = told_end left mid t taken_off ended;
  allowed = record {
    came = omega arith;
    limit = ((λ e. absurd cc), (λ e. absurd (omega arith)));
    few = omega arith;
    items_are = (within_all t taken many few, refl);
  };
  processed = h.processed;
  got = h.got;
}

-- what is said of a session that gave up, whatever failed
may_process : (format : ℕ) (input text : List ℕ) (items : List Item) (why : EndFault) → AreFirstOf format input text items → MayProcess format input text items (reason_of (Err why))
may_process format input text items fault.Failed h = h
may_process format input text items fault.Memory h = h

got_most : (b : List ℕ) (edits : List meaning.Edit) (items : List Item) (marks : List ℕ) (old new : Option (List ℕ)) (why : EndFault) → GotMost b edits items marks old new → Got b edits items marks old new (reason_of (Err why))
got_most b edits items marks old new fault.Failed h = h
got_most b edits items marks old new fault.Memory h = h

no_limit : (why : EndFault) → reason_of (Err why) ≡ SessionLimit → ⊥
no_limit fault.Failed e = absurd cc
no_limit fault.Memory e = absurd cc

-- a reply of a line that ended was not given
listened_gave_up : (b t : List ℕ) (talk : Talk) (start : Start) (left mid now : Option (List ℕ)) (taken : ℕ) (why : EndFault) → length t ≡ taken → taken ≤ INPUT_LIMIT → Leaves left t mid → GaveUp b (commands (format_of b) t) talk start now → Listened b talk start left now (reason_of (Err why)) taken
listened_gave_up b t talk start left mid now taken why many few taken_off h =
    let told = told_input left mid t taken_off in
    let items = take h.count (commands (format_of b) t) in
    let front : items ≡ take h.count (commands (format_of b) (within (t ++ told.0) taken)) = ap (λ u. take h.count (commands (format_of b) u)) (sym (within_is t told.0 taken (omega arith))) in
    record {
      input = t ++ told.0;
      items = items;
      input_is = told.1;
      allowed = record {
        came = omega (arith, length-append t told.0);
        limit = ((λ e. absurd (no_limit why e)), (λ e. absurd (omega arith)));
        few = omega arith;
        items_are = may_process _ _ _ _ why (h.count, inl front);
      };
      processed = h.processed;
      got = got_most _ _ _ _ _ _ why h.got;
    }

-- the reply of the last line was not given
last_gave_up : (b t : List ℕ) (talk : Talk) (start : Start) (left mid now : Option (List ℕ)) (taken : ℕ) (why : EndFault) → length t ≡ taken → taken ≤ INPUT_LIMIT → Leaves left t mid → IsSpent mid → GaveUp b (whole (format_of b) t) talk start now → Listened b talk start left now (reason_of (Err why)) taken
last_gave_up b t talk start left mid now taken why many few taken_off ended h = record {
  input = t;
  items = take h.count (whole (format_of b) t);
  input_is = told_end left mid t taken_off ended;
  allowed = record {
    came = omega arith;
    limit = ((λ e. absurd (no_limit why e)), (λ e. absurd (omega arith)));
    few = omega arith;
    items_are = may_process _ _ _ _ why (h.count, inr (within_all t taken many few, refl));
  };
  processed = h.processed;
  got = got_most _ _ _ _ _ _ why h.got;
}

-- its input was read to the end
pub listened_last : (b t : List ℕ) (old talk : Talk) (pending : Pending) (start : Start) (left mid before now : Option (List ℕ)) (taken : ℕ) (result : Result (Unit {0}) EndFault) → length t ≡ taken → taken ≤ INPUT_LIMIT → Leaves left t mid → IsSpent mid → HasHeard b t old pending start before
    → OnOk result ((t : List ℕ) → (start : Start) → HasHeard b t old pending start before → IsAnswering b (whole (format_of b) t) talk start now)
    → OnErr result ((t : List ℕ) → (start : Start) → HasHeard b t old pending start before → GaveUp b (whole (format_of b) t) talk start now)
    → Listened b talk start left now (reason_of result) taken
listened_last b t old talk pending start left mid before now taken (Ok done) many few taken_off ended h heard gave_up =
    listened_end b t talk start left mid now taken many few taken_off ended (heard t start h)
listened_last b t old talk pending start left mid before now taken (Err why) many few taken_off ended h heard gave_up =
    last_gave_up b t talk start left mid now taken why many few taken_off ended (gave_up t start h)

-- a piece of its input was not answered
pub listened_piece : (b t piece : List ℕ) (old talk : Talk) (pending : Pending) (start : Start) (left mid after before now : Option (List ℕ)) (taken : ℕ) (result : Result (Unit {0}) EndFault) → is_err result ≡ true → length (t ++ piece) ≡ taken → taken ≤ INPUT_LIMIT → Leaves left t mid → Leaves mid piece after → HasHeard b t old pending start before
    → OnErr result ((t : List ℕ) → (start : Start) → HasHeard b t old pending start before → GaveUp b (commands (format_of b) (t ++ piece)) talk start now)
    → Listened b talk start left now (reason_of result) taken
listened_piece b t piece old talk pending start left mid after before now taken (Ok done) failed many few taken_off more h gave_up = absurd cc
listened_piece b t piece old talk pending start left mid after before now taken (Err why) failed many few taken_off more h gave_up =
    listened_gave_up b (t ++ piece) talk start left after now taken why many few (leaves_more left mid after t piece taken_off more) (gave_up t start h)

-- or each line that ended in it was
pub heard_piece : (b t piece : List ℕ) (old talk : Talk) (pending now : Pending) (start : Start) (before after : Option (List ℕ)) (result : Result (Unit {0}) EndFault) → is_err result ≡ false → HasHeard b t old pending start before
    → OnOk result ((t : List ℕ) → (start : Start) → HasHeard b t old pending start before → HasHeard b (t ++ piece) talk now start after) → HasHeard b (t ++ piece) talk now start after
heard_piece b t piece old talk pending now start before after (Ok done) whole h heard = heard t start h
heard_piece b t piece old talk pending now start before after (Err why) whole h heard = absurd cc

-- no more was taken
pub leaves_none : (old mid now : Option (List ℕ)) (t buf : List ℕ) (n : ℕ) → n ≡ 0 → Leaves old t mid → Leaves mid (take n buf) now → Leaves old t now
leaves_none old mid now t buf n none h more =
    subst (λ u. Leaves old u now) (append-nil t) (subst (λ k. Leaves old (t ++ take k buf) now) none (leaves_more old mid now t (take n buf) h more))

-- so many were taken
pub taken_many : (t buf : List ℕ) (taken n : ℕ) → length t ≡ taken → n ≤ length buf → length (t ++ take n buf) ≡ taken + n
taken_many t buf taken n many fits = omega (arith, length-append t (take n buf), length-take n buf)

pub taken_more : (buf : List ℕ) (n : ℕ) → n ≤ length buf → length (take n buf) ≡ n
taken_more buf n fits = omega (arith, length-take n buf)

-- what was taken is the front of a longer buffer
pub leaves_front : (mid after : Option (List ℕ)) (buf behind : List ℕ) (n : ℕ) → n ≤ length buf → Leaves mid (take n buf) after → Leaves mid (take n (buf ++ behind)) after
leaves_front mid after buf behind n fits h = subst (λ u. Leaves mid u after) (sym (take-append-le n buf behind fits)) h

pub fits_front : (buf behind : List ℕ) (n : ℕ) → n ≤ length buf → n ≤ length (buf ++ behind)
fits_front buf behind n fits = omega (arith, length-append buf behind)

-- some input, which is what is told
some_input : (left : Option (List ℕ)) → (input : List ℕ) × IfSome left (λ all. all ≡ input)
some_input None = ([], tt)
some_input (Some all) = (all, refl)

-- an output that got nothing has the replies to no items
got_nothing : (b : List ℕ) (edits : List meaning.Edit) (got : Option (List ℕ)) → GotMost b edits [] [] got got
unfolding replies
got_nothing b edits None = tt
got_nothing b edits (Some all) = (0, omega arith, ap (λ (u : List ℕ). Some u) (sym (append-nil all)))

-- a session for which there was no memory
pub served_nothing : (b : List ℕ) (h : List Entry) (who : ℕ) (left got : Option (List ℕ)) → Served b h h who left got got [] Memory 0
unfolding Makes
served_nothing b h who left got =
    let input = some_input left in
    record {
      input = input.0;
      items = [];
      input_is = input.1;
      processed = record {
        came = omega arith;
        limit = ((λ e. absurd cc), (λ e. absurd (omega arith)));
        few = omega arith;
        items_are = (0, inl refl);
      };
      one = λ text. processed_one (format_of b) text 0 Memory;
      begins = take_all (length h) h (omega arith);
      makes = rw (drop-numbered h) tt;
      rising = λ j k before inside. absurd (omega arith);
      newer = λ k command is. absurd (cc);
      got = got_nothing b (journal h) got;
    }

-- a session that was heard as far as its input goes was served
pub served_listened : (b : List ℕ) (talk : Talk) (start : Start) (left now : Option (List ℕ)) (reason : Reason) (taken : ℕ) → Listened b talk start left now reason taken
    → Served b start.pass.seen talk.pass.seen start.pass.who left start.got now talk.marks reason taken
served_listened b talk start left now reason taken listened =
    let tale = listened.processed.tale in
    record {
      input = listened.input;
      items = listened.items;
      input_is = listened.input_is;
      processed = listened.allowed;
      one = λ text. processed_one (format_of b) text taken reason;
      begins = take_begun start.pass.seen talk.pass.seen tale.begins;
      makes = tale.makes;
      rising = tale.rising;
      newer = tale.newer;
      got = listened.got;
    }

-- and gave each of its pins back
pub listened_back : (b : List ℕ) (talk : Talk) (start : Start) (left now : Option (List ℕ)) (reason : Reason) (taken : ℕ) → Listened b talk start left now reason taken
    → HasGivenBack start.pass.seen start.pass.who → HasGivenBack talk.pass.seen start.pass.who
listened_back b talk start left now reason taken listened back =
    let tale = listened.processed.tale in
    given_back_after start.pass.seen talk.pass.seen start.pass.who listened.items talk.marks tale.begins tale.makes back
