-- What a session has heard, when one more part of a line, or the end of a line, came.
use Rattle.std.proofs.Common.{◌≡◌, ℕ, ◌+◌, ◌<◌, ◌≤◌, Bool, true, false, eqb, leb, List, [], ◌∷◌, ◌++◌, length, take, drop, Option, refl, sym, ap, subst, ◌∙◌, append_assoc, Err, inl, inr, arith, rules, Some}
use Rattle.std.specs.List.{position}
use Rattle.std.proofs.lemmas.Bool.{cases_Bool, lt-leb, ne_eqb}
use Rattle.std.proofs.lemmas.List.{append-nil}
use Rattle.std.proofs.lemmas.List.{nil_from_length}
use Rattle.std.proofs.Math.Seq.{take-append_seam}
use Rattle.turn_gate.specs.Meaning.{Passed}
use Rattle.view_meaning.specs.Survey.{format_of}
use Rattle.view_base.specs.Text.{words}
use Rattle.view_lines.specs.declared.refusal.Refusal.TheVariants.{Line}
use Rattle.version_store.specs.declared.history.Entry.{Entry}
use Rattle.sessions.specs.declared.pending.TheConstants.{LINE}
use Rattle.sessions.specs.Session.{Item, is_lf, without_cr, item_of_words, items_of, commands, whole, rest}
use Rattle.sessions.specs.declared.pending.Pending.{Pending}
use Rattle.sessions.specs.Talk.{Talk, Start, IsAnswering, Answered, AnsweredAll, GaveUp}
use Rattle.sessions.specs.Hearing.{HasHeard, IsPending}
use Rattle.sessions.proofs.Lines.{IsUnbroken, split_at_lf, commands-nil, commands-more, commands-lf, rest-more, rest-lf, rest-nil}
use Rattle.sessions.proofs.Replying.{answering_nothing, answering_line, gave_up-line}

-- a line above the most bytes is refused
pub items-long : (f : ℕ) (line : List ℕ) → LINE < length line → items_of f line ≡ Err Line ∷ []
unfolding items_of
items-long f line long = rw (lt-leb (length line) LINE long) refl

few_words : (f : ℕ) (line : List ℕ) → length (item_of_words f line) ≤ 1
few_words f line = elim (cases_Bool (eqb (length (words line)) 0)) [ inl h ↦ rw h (omega arith) | inr h ↦ rw h (omega arith) ]

-- a line is one item or none
pub items-few : (f : ℕ) (line : List ℕ) → length (items_of f line) ≤ 1
unfolding items_of
items-few f line = elim (cases_Bool (leb (length line) LINE)) [
  | inl h ↦ rw h (few_words f (without_cr line))
  | inr h ↦ rw h (omega arith)
]

-- a session gives up at a line
gave_up_line : (b : List ℕ) (items more others : List Item) (old new : Talk) (start : Start) (before after : Option (List ℕ)) → length more ≤ 1 → IsAnswering b items old start before → AnsweredAll b old new more before after false → GaveUp b (items ++ more ++ others) new start after
gave_up_line b items more others old new start before after few h a =
    gave_up-line b (items ++ more ++ others) items more old new start before after few h a (length (items ++ more), take-append_seam (items ++ more) others)

-- the commands of a text whose last line ended, and then of what follows
pub commands-line : (f : ℕ) (t part s : List ℕ) → IsUnbroken part → commands f (t ++ part ++ 10 ∷ s) ≡ commands f t ++ items_of f (rest t ++ part) ++ commands f s
commands-line f t part s unbroken =
    commands-lf f (t ++ part) s ∙ rw (commands-more f t part unbroken, rest-more t part unbroken) refl

-- a part of a line came
pub heard_part : (b t part : List ℕ) (talk : Talk) (pending now : Pending) (start : Start) (got : Option (List ℕ)) → IsUnbroken part → HasHeard b t talk pending start got → IsPending now (rest t ++ part) → HasHeard b (t ++ part) talk now start got
heard_part b t part talk pending now start got unbroken h is = record {
  answering = rw (commands-more (format_of b) t part unbroken) h.answering;
  kept = rw (rest-more t part unbroken) is;
}

-- the end of a line came, and it was answered
pub heard_line : (b t part : List ℕ) (old new : Talk) (pending now : Pending) (start : Start) (before after : Option (List ℕ)) → IsUnbroken part → HasHeard b t old pending start before → AnsweredAll b old new (items_of (format_of b) (rest t ++ part)) before after true → IsPending now [] → HasHeard b (t ++ part ++ 10 ∷ []) new now start after
heard_line b t part old new pending now start before after unbroken h a is = record {
  answering =
      let items = commands (format_of b) t in
      let more = items_of (format_of b) (rest t ++ part) in
      rw (commands-line (format_of b) t part [] unbroken, commands-nil (format_of b), append-nil (items ++ more)) (answering_line b items more old new start before after (items-few (format_of b) (rest t ++ part)) h.answering a);
  kept = rw (rest-lf (t ++ part) [], rest-nil) is;
}

-- or it was not
pub heard_gave_up : (b t part s : List ℕ) (old new : Talk) (pending : Pending) (start : Start) (before after : Option (List ℕ)) → IsUnbroken part → HasHeard b t old pending start before → AnsweredAll b old new (items_of (format_of b) (rest t ++ part)) before after false → GaveUp b (commands (format_of b) (t ++ part ++ 10 ∷ s)) new start after
heard_gave_up b t part s old new pending start before after unbroken h a =
    rw (commands-line (format_of b) t part s unbroken) (gave_up_line b (commands (format_of b) t) (items_of (format_of b) (rest t ++ part)) (commands (format_of b) s) old new start before after (items-few (format_of b) (rest t ++ part)) h.answering a)

-- a whole text, by whether something follows the last LF
pub whole-ended : (f : ℕ) (t : List ℕ) → rest t ≡ [] → whole f t ≡ commands f t
unfolding whole
whole-ended f t none = rw none (append-nil (commands f t))

pub whole-open : (f : ℕ) (t : List ℕ) → 0 < length (rest t) → whole f t ≡ commands f t ++ items_of f (rest t)
unfolding whole
whole-open f t some = rw (ne_eqb (length (rest t)) 0 (λ e. omega arith)) refl

-- the answer to a refused line is that to all its items
pub answered_long : (b : List ℕ) (old new : Talk) (line : List ℕ) (before after : Option (List ℕ)) (done : Bool) → LINE < length line → Answered b old new (Err Line) before after done → AnsweredAll b old new (items_of (format_of b) line) before after done
answered_long b old new line before after done long a = rw (items-long (format_of b) line long) a

-- what was answered of a line was answered of the same line by another name
pub answered_same : (b : List ℕ) (old new : Talk) (here line : List ℕ) (before after : Option (List ℕ)) (done : Bool) → here ≡ line → done ≡ true → AnsweredAll b old new (items_of (format_of b) here) before after done → AnsweredAll b old new (items_of (format_of b) line) before after true
answered_same b old new here line before after done same all a = rw (sym same, sym all) a

-- a piece whose next line ended
pub cut_piece : (piece front rest : List ℕ) (k : ℕ) → position is_lf rest ≡ Some k → piece ≡ front ++ rest → piece ≡ front ++ take k rest ++ 10 ∷ drop (k + 1) rest
cut_piece piece front rest k found h =
    h ∙ ap (λ u. front ++ u) (split_at_lf rest k found) ∙ sym (append_assoc front (take k rest) (10 ∷ drop (k + 1) rest))

-- what is regrouped is the same text
pub regroup : (t front part s piece : List ℕ) → piece ≡ front ++ part ++ s → t ++ front ++ part ++ s ≡ t ++ piece
regroup t front part s piece h = rw h (simp append_assoc)

pub regroup_lf : (t front part : List ℕ) → t ++ front ++ part ++ 10 ∷ [] ≡ t ++ (front ++ part ++ 10 ∷ [])
regroup_lf t front part = simp append_assoc

pub tail_on : (front part tail now : List ℕ) → tail ≡ now → front ++ part ++ 10 ∷ tail ≡ front ++ part ++ 10 ∷ [] ++ now
tail_on front part tail now h = rw h (sym (append_assoc (front ++ part) (10 ∷ []) now))

-- what was heard of a text was heard of the same text by another name
pub heard_as : (b t u : List ℕ) (talk : Talk) (pending : Pending) (start : Start) (now : Option (List ℕ)) → t ≡ u → HasHeard b t talk pending start now → HasHeard b u talk pending start now
heard_as b t u talk pending start now same h = subst (λ v. HasHeard b v talk pending start now) same h

pub gave_up_as : (b t u : List ℕ) (talk : Talk) (start : Start) (now : Option (List ℕ)) → t ≡ u → GaveUp b (commands (format_of b) t) talk start now → GaveUp b (commands (format_of b) u) talk start now
gave_up_as b t u talk start now same h = subst (λ v. GaveUp b (commands (format_of b) v) talk start now) same h

-- whether a line that is kept has bytes
pub some_long : (pending : Pending) (line : List ℕ) → IsPending pending line → pending.long ≡ true → 0 < length line
some_long pending line is long = let many : LINE < length line = is.many (search (rules, long)) in omega arith

pub some_kept : (pending : Pending) (line : List ℕ) → IsPending pending line → pending.long ≡ false → 0 < length pending.bytes.items → 0 < length line
some_kept pending line is few some = subst (λ l. 0 < length l) (is.few (search (rules, few))) some

pub none_kept : (pending : Pending) (line : List ℕ) → IsPending pending line → pending.long ≡ false → length pending.bytes.items ≤ 0 → line ≡ []
none_kept pending line is few none = let short : length line ≤ 0 = subst (λ l. length l ≤ 0) (is.few (search (rules, few))) none in nil_from_length line (omega arith)

-- the last line of an input was answered
pub heard_end : (b t : List ℕ) (old new : Talk) (pending : Pending) (start : Start) (before after : Option (List ℕ)) → 0 < length (rest t) → HasHeard b t old pending start before → AnsweredAll b old new (items_of (format_of b) (rest t)) before after true → IsAnswering b (whole (format_of b) t) new start after
heard_end b t old new pending start before after some h a =
    rw (whole-open (format_of b) t some) (answering_line b (commands (format_of b) t) (items_of (format_of b) (rest t)) old new start before after (items-few (format_of b) (rest t)) h.answering a)

-- or it was not
pub end_gave_up : (b t : List ℕ) (old new : Talk) (pending : Pending) (start : Start) (before after : Option (List ℕ)) → 0 < length (rest t) → HasHeard b t old pending start before → AnsweredAll b old new (items_of (format_of b) (rest t)) before after false → GaveUp b (whole (format_of b) t) new start after
end_gave_up b t old new pending start before after some h a =
    let items = commands (format_of b) t in
    let more = items_of (format_of b) (rest t) in
    let given : GaveUp b (items ++ more ++ []) new start after = gave_up_line b items more [] old new start before after (items-few (format_of b) (rest t)) h.answering a in
    rw (whole-open (format_of b) t some) (subst (λ all. GaveUp b all new start after) (append-nil (items ++ more)) given)

-- or there was none
pub heard_all : (b t : List ℕ) (talk : Talk) (pending : Pending) (start : Start) (now : Option (List ℕ)) → rest t ≡ [] → HasHeard b t talk pending start now → IsAnswering b (whole (format_of b) t) talk start now
heard_all b t talk pending start now none h = rw (whole-ended (format_of b) t none) h.answering

-- a session that has heard nothing
pub heard_nothing : (b : List ℕ) (pass : Passed Entry) (marks : List ℕ) (pending : Pending) (got : Option (List ℕ)) → marks ≡ [] → IsPending pending []
    → HasHeard b [] (record { pass = pass; marks = marks }) pending (record { pass = pass; got = got }) got
heard_nothing b pass marks pending got none kept = record {
  answering = rw (commands-nil (format_of b), none) (answering_nothing b pass got);
  kept = rw rest-nil kept;
}
