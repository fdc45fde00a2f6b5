-- The parts of a reply that are given in turn.
use Rattle.std.proofs.Common.{◌≡◌, ℕ, List, ◌++◌, length, Option, Result, Ok, Err, OnErr, sym, ap, subst, ◌∙◌}
use Rattle.std.specs.Prelude.{codes}
use Rattle.view_ends.specs.Ends.{Gains, GainsPart}
use Rattle.view_ends.specs.declared.fault.EndFault.{EndFault}
use Rattle.view_meaning.specs.Classes.{saved}
use Rattle.las_write.proofs.Fronts.{part_of_first, part_of_second}
use Rattle.las_write.proofs.Saved.{saved-length}
use Rattle.sessions.specs.Session.{head, with_length}

-- the reply to a save is its head line and the file
pub file_parts : (b cs bytes start : List ℕ) (v : ℕ) → bytes ≡ b → start ≡ head (codes "FILE") v (length bytes) → start ++ saved b cs ≡ with_length (codes "FILE") v (saved b cs)
file_parts b cs bytes start v same begins =
    ap (λ (l : List ℕ). l ++ saved b cs) begins ∙ ap (λ (n : ℕ). head (codes "FILE") v n ++ saved b cs) (ap length same ∙ sym (saved-length b cs))

-- its first part was not given whole
pub part_first : (before after : Option (List ℕ)) (start text whole : List ℕ) (result : Result (Unit {0}) EndFault) → start ++ text ≡ whole → GainsPart before start after → OnErr result (GainsPart before whole after)
part_first before after start text whole (Ok done) is part = tt
part_first before after start text whole (Err fault) is part = subst (λ (l : List ℕ). GainsPart before l after) is (part_of_first before after start text part)

-- or its second
pub part_second : (before between after : Option (List ℕ)) (start text whole : List ℕ) (result : Result (Unit {0}) EndFault) → start ++ text ≡ whole → Gains before start between
    → OnErr result (GainsPart between text after) → OnErr result (GainsPart before whole after)
part_second before between after start text whole (Ok done) is given part = tt
part_second before between after start text whole (Err fault) is given part = subst (λ (l : List ℕ). GainsPart before l after) is (part_of_second before between after start text given part)
