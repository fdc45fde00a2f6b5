-- What the openings of the names of a `serve` leave, one after another.
use Rattle.std.proofs.Common.{◌≡◌, ◌≢◌, ℕ, ◌+◌, ◌*◌, ◌<◌, ◌≤◌, List, [], ◌∷◌, ◌++◌, Bool, length, refl, sym, ◌∙◌, ap, subst, arith, Option, None, false, inl, inr, length-append}
use Rattle.std.proofs.lemmas.Bool.{cases_lt, cases_eq}
use Rattle.std.proofs.lemmas.Bool.Decides.{nat_tests}
use Rattle.std.specs.Prelude.{◌⊎◌, IfErr, IsSome, IsTrue, OnOk, Ok, Err, Result, Some}
use Rattle.atomic_table.specs.Seated.{TableId}
use Rattle.view_base.specs.Fitting.{word_at}
use Rattle.turn_gate.specs.Meaning.{Passed}
use Rattle.version_store.specs.Sharing.{IsOwn}
use Rattle.version_store.specs.declared.history.Entry.{Entry}
use Rattle.view_ends.specs.Calls.{IsFreshIn, Shuts}
use Rattle.view_ends.specs.Pieces.{SourceSaid, SinkSaid}
use Rattle.view_ends.specs.Desk.{Said, Untouched, IsKnown}
use Rattle.view_ends.specs.Ends.{Rose, RoseBy, AllStay, NoneForgotten}
use Rattle.view_words.specs.CommandLine.{IsLine}
use Rattle.view_words.specs.declared.row.Row.TheVariants.{Serve}
use Rattle.view_words.proofs.RowNames.{outs_differ}
use Rattle.view_commands.specs.declared.places.TheConstants.{JOURNAL}
use Rattle.view_commands.specs.declared.status.Status as status
use Rattle.view_commands.specs.declared.status.Status.TheVariants.{Done, Words, Limit, NoColour, OpenFault, ReadFault, TooLong, Survey, WriteFault, SessionLimit, Memory}
use Rattle.view_commands.specs.Run.{input, output, HasPair, NotOpened}
use Rattle.view_commands.specs.Steps.{EachFrom, Seated, AreOpened, IsOpened, IsUnread, IsUnwritten, OnlyInputs, OpensAll, OpensRead, OpensSession, OpensWritten, RefusesNext, RefusesOpening, RefusesRead, RefusesWritten, ShutsUnread}
use Rattle.view_commands.proofs.Counts.{all_stay, same_said}
use Rattle.view_commands.proofs.Lists.{each-append, each-map}

-- a desk of which nothing was opened yet
pub opened-none : (tells : Bool) (said : Said) (ws : List (List ℕ)) (gate : TableId) → AreOpened tells said said ws gate []
opened-none tells said ws gate = record {
  files = record { empty = λ tell k below. absurd (omega (arith, below)); others = λ other apart. refl };
  rest = same_said said;
  each = tt;
}

opened-later : (tells : Bool) (old mid new : Said) (ws : List (List ℕ)) (gate : TableId) (k : ℕ) (seat : Seated) → NoneForgotten (IsKnown mid) (IsKnown new) → IsOpened tells old mid ws gate k seat → IsOpened tells old new ws gate k seat
opened-later tells old mid new ws gate k seat known is = record {
  fresh = is.fresh;
  script = is.script;
  emptied = is.emptied;
  input_known = known (input ws k) is.input_known;
  output_known = known (output ws k) is.output_known;
}

-- the names of one session more were opened
pub opened-more : (tells : Bool) (old mid new : Said) (ws : List (List ℕ)) (gate : TableId) (seats : List Seated) (n k : ℕ) (seat : Seated) → IsLine Serve ws → length ws ≡ 4 + 2 * n → k < n → length seats ≡ k
    → AreOpened tells old mid ws gate seats → OpensSession tells mid new ws gate k seat → AreOpened tells old new ws gate (seats ++ seat ∷ [])
opened-more tells old mid new ws gate seats n k seat line pairs within size opened opens = record {
  files = record {
    empty = λ tell j below. empty tell j (omega (arith, below, longer));
    others = λ other apart.
        let last : k < length (seats ++ seat ∷ []) = omega (arith, longer) in
        opens.files other (apart k last) ∙ opened.files.others other (λ j below. apart j (omega (arith, below, longer, size)));
  };
  rest = record {
    files = λ other. refl;
    unopened = λ other. opens.rest.unopened other ∙ opened.rest.unopened other;
    reads = λ other. opens.rest.reads other ∙ opened.rest.reads other;
    writes = λ other. opens.rest.writes other ∙ opened.rest.writes other;
    taken = λ other. opens.rest.taken other ∙ opened.rest.taken other;
    unkept = λ other. opens.rest.unkept other ∙ opened.rest.unkept other;
    known = λ other is. opens.rest.known other (opened.rest.known other is);
  };
  each = each-append (IsOpened tells old new ws gate) 0 seats seat
      (each-map (IsOpened tells old mid ws gate) (IsOpened tells old new ws gate) 0 seats (λ j one is. opened-later tells old mid new ws gate j one opens.rest.known is) opened.each)
      (subst (λ (m : ℕ). IsOpened tells old new ws gate m seat) (omega (arith, size)) here);
}
  where
    longer : length (seats ++ seat ∷ []) ≡ k + 1
    longer = let one = length-append seats (seat ∷ []) in omega (arith, one, size)

    before : (j : ℕ) → j < k → output ws j ≢ output ws k
    before j below same = let one : j ≡ k = outs_differ ws n j k line pairs (omega (arith, below, within)) within same in absurd (omega (arith, one, below))

    empty : IsTrue tells → (j : ℕ) → j < k + 1 → new.file (output ws j) ≡ Some []
    empty tell j below = elim (cases_eq j k) [
      | inl last ↦ subst (λ (m : ℕ). new.file (output ws m) ≡ Some []) (sym last) (opens.empty tell)
      | inr earlier ↦
          let less : j < k = omega (arith, below) in
          opens.files (output ws j) (before j less) ∙ opened.files.empty tell j (omega (arith, less, size))
    ]

    here : IsOpened tells old new ws gate k seat
    here = record {
      fresh = opens.fresh;
      script = λ apart. opens.left ∙ opened.files.others (input ws k) (λ j below same. apart j (omega (arith, below, size)) (sym same));
      emptied = λ tell j below same. opens.left ∙ ap mid.file (sym same) ∙ opened.files.empty tell j (omega (arith, below, size));
      input_known = opens.input_known;
      output_known = opens.output_known;
    }

-- nothing was written or read of what is only known by more names
untouched_more : (old mid new : Said) (ended : status.Status) (ws : List (List ℕ)) (n : ℕ) → Untouched (record old { file = mid.file }) mid → NotOpened mid new ws n ended → NotOpened old new ws n ended
untouched_more old mid new (OpenFault at) ws n rest (inl none) = inl (
  none.0,
  none.1,
  subst (λ (m : ℕ). Rose m (new.unopened (word_at ws at))) (rest.unopened (word_at ws at)) none.2,
  record {
    files = λ other. refl;
    unopened = λ other. refl;
    reads = λ other. none.3.reads other ∙ rest.reads other;
    writes = λ other. none.3.writes other ∙ rest.writes other;
    taken = λ other. refl;
    unkept = λ other. none.3.unkept other ∙ rest.unkept other;
    known = λ other is. none.3.known other (rest.known other is);
  },
)
untouched_more old mid new (OpenFault at) ws n rest (inr none) = inr (
  none.0,
  subst (λ (m : ℕ). Rose m (new.writes (word_at ws at))) (rest.writes (word_at ws at)) none.1,
  record {
    files = λ other. refl;
    unopened = λ other. none.2.unopened other ∙ rest.unopened other;
    reads = λ other. none.2.reads other ∙ rest.reads other;
    writes = λ other. refl;
    taken = λ other. refl;
    unkept = λ other. none.2.unkept other ∙ rest.unkept other;
    known = λ other is. none.2.known other (rest.known other is);
  },
)
untouched_more old mid new Memory ws n rest none = (
  none.0,
  record {
    files = λ other. refl;
    unopened = λ other. none.1.unopened other ∙ rest.unopened other;
    reads = λ other. none.1.reads other ∙ rest.reads other;
    writes = λ other. none.1.writes other ∙ rest.writes other;
    taken = λ other. refl;
    unkept = λ other. none.1.unkept other ∙ rest.unkept other;
    known = λ other is. none.1.known other (rest.known other is);
  },
)
untouched_more old mid new Done ws n rest none = absurd none
untouched_more old mid new (Words at) ws n rest none = absurd none
untouched_more old mid new (Limit limit) ws n rest none = absurd none
untouched_more old mid new (NoColour format) ws n rest none = absurd none
untouched_more old mid new (ReadFault at) ws n rest none = absurd none
untouched_more old mid new TooLong ws n rest none = absurd none
untouched_more old mid new (Survey told) ws n rest none = absurd none
untouched_more old mid new (WriteFault at) ws n rest none = absurd none
untouched_more old mid new (SessionLimit at) ws n rest none = absurd none

-- the names of some sessions were opened, and the next name was not
pub opened-refused : (tells : Bool) (old mid new : Said) (ws : List (List ℕ)) (gate : TableId) (seats : List Seated) (n : ℕ) (ended : status.Status) → length seats ≡ n
    → AreOpened tells old mid ws gate seats → RefusesNext mid new ws n ended → RefusesOpening tells old new ws ended
opened-refused tells old mid new ws gate seats n ended size opened refuses = record {
  opened = n;
  files = record {
    empty = λ tell k below. refuses.files (output ws k) ∙ opened.files.empty tell k (omega (arith, below, size));
    others = λ other apart. refuses.files other ∙ opened.files.others other (λ k below. apart k (omega (arith, below, size)));
  };
  cause = untouched_more old mid new ended ws n opened.rest refuses.cause;
  untaken = λ other. subst (λ (m : ℕ). new.taken other ≤ m) (opened.rest.taken other) (refuses.untaken other);
  only = record {
    unopened = λ other apart. refuses.only.unopened other apart ∙ opened.rest.unopened other;
    reads = λ other apart. refuses.only.reads other apart ∙ opened.rest.reads other;
    taken = λ other apart. refuses.only.taken other apart ∙ opened.rest.taken other;
  };
}

-- the inputs that were opened are still unread
pub opened-unread : (tells : Bool) (old mid new : Said) (ws : List (List ℕ)) (gate : TableId) (seats : List Seated) → NoneForgotten (IsKnown mid) (IsKnown new) → EachFrom (IsOpened tells old mid ws gate) 0 seats → EachFrom (IsUnread new ws) 0 seats
opened-unread tells old mid new ws gate seats known each =
    each-map (IsOpened tells old mid ws gate) (IsUnread new ws) 0 seats (λ k seat is. record { untaken = is.fresh.untaken; faultless = is.fresh.faultless; known = known (input ws k) is.input_known }) each

-- all names were opened
pub opened-all : (tells : Bool) (old mid new : Said) (ws : List (List ℕ)) (gate : TableId) (seats : List Seated) → length ws ≡ 4 + 2 * length seats → AreOpened tells old mid ws gate seats → OpensWritten tells mid new (word_at ws JOURNAL) → OpensAll tells old new ws gate seats
opened-all tells old mid new ws gate seats pairs opened journal = record {
  each = each-map (IsOpened tells old mid ws gate) (IsOpened tells old new ws gate) 0 seats (λ k seat is. opened-later tells old mid new ws gate k seat journal.rest.known is) opened.each;
  files = λ other apart too. journal.files other too ∙ opened.files.others other (λ k below. apart k (omega (arith, below, pairs)));
  rest = record {
    files = λ other. refl;
    unopened = λ other. journal.rest.unopened other ∙ opened.rest.unopened other;
    reads = λ other. journal.rest.reads other ∙ opened.rest.reads other;
    writes = λ other. journal.rest.writes other ∙ opened.rest.writes other;
    taken = λ other. journal.rest.taken other ∙ opened.rest.taken other;
    unkept = λ other. journal.rest.unkept other ∙ opened.rest.unkept other;
    known = λ other is. journal.rest.known other (opened.rest.known other is);
  };
  journal_known = journal.known;
}

-- no input is shut yet
pub unread-none : (said : Said) (ws : List (List ℕ)) → ShutsUnread said said ws
unread-none said ws = record {
  untaken = λ other. omega arith;
  only = record { unopened = λ other apart. refl; reads = λ other apart. refl; taken = λ other apart. refl };
  rest = same_said said;
}

no_more : (before after : ℕ) → RoseBy 0 before after → after ≤ before
no_more before after rose = grind (arith, nat_tests)

-- an unread input was shut
pub unread-one : (old new : Said) (ws : List (List ℕ)) (k taken faults : ℕ) → HasPair ws k → taken ≡ 0 → faults ≡ 0 → Shuts old new (input ws k) taken faults → ShutsUnread old new ws
unread-one old new ws k taken faults pair untaken faultless shuts =
    let reads : AllStay old.reads new.reads = all_stay old.reads new.reads (input ws k) (shuts.calm faultless) shuts.others in
    record {
      untaken = no_less;
      only = record {
        unopened = λ other apart. shuts.rest.unopened other;
        reads = λ other apart. reads other;
        taken = λ other apart. shuts.other_counts other (apart k pair);
      };
      rest = record {
        files = λ other. shuts.rest.files other;
        unopened = λ other. shuts.rest.unopened other;
        reads = reads;
        writes = λ other. shuts.rest.writes other;
        taken = λ other. refl;
        unkept = λ other. shuts.rest.unkept other;
        known = λ other is. shuts.rest.known other is;
      };
    }
  where
    here : new.taken (input ws k) ≤ old.taken (input ws k)
    here = no_more (old.taken (input ws k)) (new.taken (input ws k)) (subst (λ (m : ℕ). RoseBy m (old.taken (input ws k)) (new.taken (input ws k))) untaken shuts.count)

    no_less : (other : List ℕ) → new.taken other ≤ old.taken other
    no_less other = elim (cases_lt (old.taken other) (new.taken other)) [
      | inl more ↦
          let same : new.taken other ≡ old.taken other = shuts.other_counts other (λ is.
          let less : new.taken other ≤ old.taken other = subst (λ (at : List ℕ). new.taken at ≤ old.taken at) (sym is) here in
          absurd (omega (arith, more, less))) in
          absurd (omega (arith, more, same))
      | inr less ↦ omega (arith, less)
    ]

-- and then further ones
pub unread-then : (old mid new : Said) (ws : List (List ℕ)) → ShutsUnread old mid ws → ShutsUnread mid new ws → ShutsUnread old new ws
unread-then old mid new ws first second = record {
  untaken = λ other. let one = first.untaken other in let two = second.untaken other in omega (arith, one, two);
  only = record {
    unopened = λ other apart. second.only.unopened other apart ∙ first.only.unopened other apart;
    reads = λ other apart. second.only.reads other apart ∙ first.only.reads other apart;
    taken = λ other apart. second.only.taken other apart ∙ first.only.taken other apart;
  };
  rest = record {
    files = λ other. second.rest.files other ∙ first.rest.files other;
    unopened = λ other. second.rest.unopened other ∙ first.rest.unopened other;
    reads = λ other. second.rest.reads other ∙ first.rest.reads other;
    writes = λ other. second.rest.writes other ∙ first.rest.writes other;
    taken = λ other. refl;
    unkept = λ other. second.rest.unkept other ∙ first.rest.unkept other;
    known = λ other is. second.rest.known other (first.rest.known other is);
  };
}

same_shut : (old new : Said) (ws : List (List ℕ)) → Untouched old new → OnlyInputs old new ws
same_shut old new ws rest = record { unopened = λ other apart. rest.unopened other; reads = λ other apart. rest.reads other; taken = λ other apart. rest.taken other }

same_taken : (old new : Said) → AllStay old.taken new.taken → (other : List ℕ) → new.taken other ≤ old.taken other
same_taken old new same other = subst (λ (m : ℕ). m ≤ old.taken other) (sym (same other)) (omega arith)

-- memory was wanted for the next name
memory_next : (old new : Said) (ws : List (List ℕ)) (k : ℕ) → 4 + 2 * k ≤ length ws → Untouched old new → RefusesNext old new ws k Memory
memory_next old new ws k fits rest = record {
  files = rest.files;
  cause = (
    fits,
    record {
      files = λ other. refl;
      unopened = rest.unopened;
      reads = rest.reads;
      writes = rest.writes;
      taken = λ other. refl;
      unkept = rest.unkept;
      known = rest.known;
    },
  );
  untaken = same_taken old new rest.taken;
  only = same_shut old new ws rest;
  known = rest.known;
}

-- the input of the next session was not opened
pub next-unread : (old new : Said) (ws : List (List ℕ)) (k : ℕ) (ended : status.Status) → HasPair ws k → RefusesRead old new (input ws k) (4 + 2 * k) ended → RefusesNext old new ws k ended
next-unread old new ws k (OpenFault at) pair refused = record {
  files = refused.3.files;
  cause = inl (
    refused.0,
    pair,
    subst (λ (m : ℕ). Rose (old.unopened (word_at ws m)) (new.unopened (word_at ws m))) (sym refused.0) refused.1,
    record {
      files = λ other. refl;
      unopened = λ other. refl;
      reads = refused.3.reads;
      writes = refused.3.writes;
      taken = λ other. refl;
      unkept = refused.3.unkept;
      known = refused.3.known;
    },
  );
  untaken = same_taken old new refused.3.taken;
  only = record {
    unopened = λ other apart. refused.2 other (apart k pair);
    reads = λ other apart. refused.3.reads other;
    taken = λ other apart. refused.3.taken other;
  };
  known = refused.3.known;
}
next-unread old new ws k Memory pair refused = memory_next old new ws k (omega (arith, pair)) refused
next-unread old new ws k Done pair refused = absurd refused
next-unread old new ws k (Words at) pair refused = absurd refused
next-unread old new ws k (Limit limit) pair refused = absurd refused
next-unread old new ws k (NoColour format) pair refused = absurd refused
next-unread old new ws k (ReadFault at) pair refused = absurd refused
next-unread old new ws k TooLong pair refused = absurd refused
next-unread old new ws k (Survey told) pair refused = absurd refused
next-unread old new ws k (WriteFault at) pair refused = absurd refused
next-unread old new ws k (SessionLimit at) pair refused = absurd refused

-- the output of the next session, or the journal after all sessions, was not opened
pub next-unwritten : (old new : Said) (ws : List (List ℕ)) (k at : ℕ) (ended : status.Status) → (at ≡ 5 + 2 * k) × HasPair ws k ⊎ (at ≡ JOURNAL) × (length ws ≡ 4 + 2 * k) → RefusesWritten old new (word_at ws at) at ended → RefusesNext old new ws k ended
next-unwritten old new ws k at (OpenFault place) here refused = record {
  files = refused.2.files;
  cause = inr (
    subst (λ (m : ℕ). (m ≡ 5 + 2 * k) × HasPair ws k ⊎ (m ≡ JOURNAL) × (length ws ≡ 4 + 2 * k)) (sym refused.0) here,
    subst (λ (m : ℕ). Rose (old.writes (word_at ws m)) (new.writes (word_at ws m))) (sym refused.0) refused.1,
    record {
      files = λ other. refl;
      unopened = refused.2.unopened;
      reads = refused.2.reads;
      writes = λ other. refl;
      taken = λ other. refl;
      unkept = refused.2.unkept;
      known = refused.2.known;
    },
  );
  untaken = same_taken old new refused.2.taken;
  only = record {
    unopened = λ other apart. refused.2.unopened other;
    reads = λ other apart. refused.2.reads other;
    taken = λ other apart. refused.2.taken other;
  };
  known = refused.2.known;
}
next-unwritten old new ws k at Memory here refused = memory_next old new ws k (fits here) refused
  where
    fits : (at ≡ 5 + 2 * k) × HasPair ws k ⊎ (at ≡ JOURNAL) × (length ws ≡ 4 + 2 * k) → 4 + 2 * k ≤ length ws
    fits (inl pair) = let one = pair.1 in omega (arith, one)
    fits (inr all) = let one = all.1 in omega (arith, one)
next-unwritten old new ws k at Done here refused = absurd refused
next-unwritten old new ws k at (Words place) here refused = absurd refused
next-unwritten old new ws k at (Limit limit) here refused = absurd refused
next-unwritten old new ws k at (NoColour format) here refused = absurd refused
next-unwritten old new ws k at (ReadFault place) here refused = absurd refused
next-unwritten old new ws k at TooLong here refused = absurd refused
next-unwritten old new ws k at (Survey told) here refused = absurd refused
next-unwritten old new ws k at (WriteFault place) here refused = absurd refused
next-unwritten old new ws k at (SessionLimit place) here refused = absurd refused

shut_later : (mid last new : Said) (ws : List (List ℕ)) (k : ℕ) (ended : status.Status) → Untouched (record last { taken = new.taken }) new → NotOpened mid last ws k ended → NotOpened mid new ws k ended
shut_later mid last new ws k (OpenFault at) rest (inl none) = inl (
  none.0,
  none.1,
  subst (λ (m : ℕ). Rose (mid.unopened (word_at ws at)) m) (sym (rest.unopened (word_at ws at))) none.2,
  record {
    files = λ other. refl;
    unopened = λ other. refl;
    reads = λ other. rest.reads other ∙ none.3.reads other;
    writes = λ other. rest.writes other ∙ none.3.writes other;
    taken = λ other. refl;
    unkept = λ other. rest.unkept other ∙ none.3.unkept other;
    known = λ other is. rest.known other (none.3.known other is);
  },
)
shut_later mid last new ws k (OpenFault at) rest (inr none) = inr (
  none.0,
  subst (λ (m : ℕ). Rose (mid.writes (word_at ws at)) m) (sym (rest.writes (word_at ws at))) none.1,
  record {
    files = λ other. refl;
    unopened = λ other. rest.unopened other ∙ none.2.unopened other;
    reads = λ other. rest.reads other ∙ none.2.reads other;
    writes = λ other. refl;
    taken = λ other. refl;
    unkept = λ other. rest.unkept other ∙ none.2.unkept other;
    known = λ other is. rest.known other (none.2.known other is);
  },
)
shut_later mid last new ws k Memory rest none = (
  none.0,
  record {
    files = λ other. refl;
    unopened = λ other. rest.unopened other ∙ none.1.unopened other;
    reads = λ other. rest.reads other ∙ none.1.reads other;
    writes = λ other. rest.writes other ∙ none.1.writes other;
    taken = λ other. refl;
    unkept = λ other. rest.unkept other ∙ none.1.unkept other;
    known = λ other is. rest.known other (none.1.known other is);
  },
)
shut_later mid last new ws k Done rest none = absurd none
shut_later mid last new ws k (Words at) rest none = absurd none
shut_later mid last new ws k (Limit limit) rest none = absurd none
shut_later mid last new ws k (NoColour format) rest none = absurd none
shut_later mid last new ws k (ReadFault at) rest none = absurd none
shut_later mid last new ws k TooLong rest none = absurd none
shut_later mid last new ws k (Survey told) rest none = absurd none
shut_later mid last new ws k (WriteFault at) rest none = absurd none
shut_later mid last new ws k (SessionLimit at) rest none = absurd none

-- the input of a session was opened, its output was not, and the input is shut
pub next-shut : (old mid last new : Said) (ws : List (List ℕ)) (k : ℕ) (ended : status.Status) → Untouched old mid → RefusesNext mid last ws k ended → ShutsUnread last new ws → RefusesNext old new ws k ended
next-shut old mid last new ws k ended before refuses shuts = record {
  files = λ other. shuts.rest.files other ∙ refuses.files other ∙ before.files other;
  cause = untouched_more old mid new ended ws k record {
    files = λ other. refl;
    unopened = before.unopened;
    reads = before.reads;
    writes = before.writes;
    taken = before.taken;
    unkept = before.unkept;
    known = before.known;
  } (shut_later mid last new ws k ended shuts.rest refuses.cause);
  untaken = λ other. let one = shuts.untaken other in let two = refuses.untaken other in let three = before.taken other in omega (arith, one, two, three);
  only = record {
    unopened = λ other apart. shuts.only.unopened other apart ∙ refuses.only.unopened other apart ∙ before.unopened other;
    reads = λ other apart. shuts.only.reads other apart ∙ refuses.only.reads other apart ∙ before.reads other;
    taken = λ other apart. shuts.only.taken other apart ∙ refuses.only.taken other apart ∙ before.taken other;
  };
  known = λ other is. shuts.rest.known other (refuses.known other (before.known other is));
}

-- the inputs of the sessions before are shut too
pub refused-shut : (tells : Bool) (old last new : Said) (ws : List (List ℕ)) (ended : status.Status) → RefusesOpening tells old last ws ended → ShutsUnread last new ws → RefusesOpening tells old new ws ended
refused-shut tells old last new ws ended refuses shuts = record {
  opened = refuses.opened;
  files = record {
    empty = λ tell k below. shuts.rest.files (output ws k) ∙ refuses.files.empty tell k below;
    others = λ other apart. shuts.rest.files other ∙ refuses.files.others other apart;
  };
  cause = shut_later old last new ws refuses.opened ended shuts.rest refuses.cause;
  untaken = λ other. let one = shuts.untaken other in let two = refuses.untaken other in omega (arith, one, two);
  only = record {
    unopened = λ other apart. shuts.only.unopened other apart ∙ refuses.only.unopened other apart;
    reads = λ other apart. shuts.only.reads other apart ∙ refuses.only.reads other apart;
    taken = λ other apart. shuts.only.taken other apart ∙ refuses.only.taken other apart;
  };
}

-- both names of a session were opened, and a pass was split off for it
pub session-opened : (tells : Bool) (old mid new : Said) (ws : List (List ℕ)) (gate : TableId) (k : ℕ) (left got : Option (List ℕ)) (taken faults failed given : ℕ) (seen : List Entry) (pass : Passed Entry) (seat : Seated)
    → OpensRead old mid (input ws k) → IsFreshIn (old.file (input ws k)) left taken faults → (IsTrue tells → IsSome (old.file (input ws k))) → OpensWritten tells mid new (output ws k) → IsUnwritten tells got failed
    → seat.input ≡ record { left = left; taken = taken; faults = faults } → seat.output ≡ record { got = got; faults = failed } → seat.pass ≡ pass → given ≡ k → seen ≡ []
    → pass ≡ record { gate = gate; who = given + 1; seen = seen; mine = []; turn = None; root = false; out = 0; given = 0; kept = [] } → IsOwn pass → OpensSession tells old new ws gate k seat
session-opened tells old mid new ws gate k left got taken faults failed given seen pass seat read fresh there written unwritten input_is output_is pass_is given_is seen_is split own =
    let left_is : seat.input.left ≡ old.file (input ws k) = ap (λ (s : SourceSaid). s.left) input_is ∙ fresh.bytes in
    record {
      fresh = record {
        there = λ tell. subst (λ (o : Option (List ℕ)). IsSome o) (sym left_is) (there tell);
        untaken = ap (λ (s : SourceSaid). s.taken) input_is ∙ fresh.untaken;
        faultless = ap (λ (s : SourceSaid). s.faults) input_is ∙ fresh.faultless;
        unwritten = record {
          empty = λ tell. ap (λ (s : SinkSaid). s.got) output_is ∙ unwritten.empty tell;
          faultless = ap (λ (s : SinkSaid). s.faults) output_is ∙ unwritten.faultless;
        };
        pass = pass_is ∙ split ∙ fresh_pass;
        own = subst IsOwn (sym pass_is) own;
      };
      left = left_is;
      empty = written.empty;
      files = λ other apart. written.files other apart ∙ read.rest.files other;
      rest = record {
        files = λ other. refl;
        unopened = λ other. written.rest.unopened other ∙ read.rest.unopened other;
        reads = λ other. written.rest.reads other ∙ read.rest.reads other;
        writes = λ other. written.rest.writes other ∙ read.rest.writes other;
        taken = λ other. written.rest.taken other ∙ read.rest.taken other;
        unkept = λ other. written.rest.unkept other ∙ read.rest.unkept other;
        known = λ other is. written.rest.known other (read.rest.known other is);
      };
      input_known = written.rest.known (input ws k) read.known;
      output_known = written.known;
    }
  where
    split_off : ℕ → List Entry → Passed Entry
    split_off n h = record { gate = gate; who = n + 1; seen = h; mine = []; turn = None; root = false; out = 0; given = 0; kept = [] }

    fresh_pass : split_off given seen ≡ split_off k []
    fresh_pass = ap (λ (n : ℕ). split_off n seen) given_is ∙ ap (λ (h : List Entry). split_off k h) seen_is

module _ {T : Type 0} (result : Result T status.Status) (tells : Bool) (old mid new : Said) (ws : List (List ℕ)) (gate : TableId) (seats : List Seated) (pairs : length ws ≡ 4 + 2 * length seats) (opened : AreOpened tells old mid ws gate seats) where
  next_refused : (ended : status.Status) → RefusesWritten mid new (word_at ws JOURNAL) JOURNAL ended → RefusesNext mid new ws (length seats) ended
  next_refused ended refused = next-unwritten mid new ws (length seats) JOURNAL ended (inr (refl, pairs)) refused

  -- all names of the sessions were opened, and then the journal or not
  pub journal-opened : OnOk result (OpensWritten tells mid new (word_at ws JOURNAL)) → OnOk result (OpensAll tells old new ws gate seats)
  journal-opened journal = from result journal
    where
      from : (r : Result T status.Status) → OnOk r (OpensWritten tells mid new (word_at ws JOURNAL)) → OnOk r (OpensAll tells old new ws gate seats)
      from (Ok out) one = opened-all tells old mid new ws gate seats pairs opened one
      from (Err ended) one = one

  pub journal-refused : IfErr result (λ ended. RefusesWritten mid new (word_at ws JOURNAL) JOURNAL ended) → IfErr result (λ ended. RefusesOpening tells old new ws ended)
  journal-refused journal = from result journal
    where
      from : (r : Result T status.Status) → IfErr r (λ ended. RefusesWritten mid new (word_at ws JOURNAL) JOURNAL ended) → IfErr r (λ ended. RefusesOpening tells old new ws ended)
      from (Ok out) none = none
      from (Err ended) none = opened-refused tells old mid new ws gate seats (length seats) ended refl opened (next_refused ended none)

  pub journal-unread : OnOk result (OpensWritten tells mid new (word_at ws JOURNAL)) → IfErr result (λ ended. RefusesWritten mid new (word_at ws JOURNAL) JOURNAL ended) → EachFrom (IsUnread new ws) 0 seats
  journal-unread journal none = opened-unread tells old mid new ws gate seats (known result journal none) opened.each
    where
      known : (r : Result T status.Status) → OnOk r (OpensWritten tells mid new (word_at ws JOURNAL)) → IfErr r (λ ended. RefusesWritten mid new (word_at ws JOURNAL) JOURNAL ended) → NoneForgotten (IsKnown mid) (IsKnown new)
      known (Ok out) one refused = one.rest.known
      known (Err ended) one refused = (next_refused ended refused).known
