-- What a survey that was loaded is known to have.
use Rattle.std.proofs.Common.{ℕ, zero, suc, ◌≤◌, List, length, arith}
use Rattle.view_meaning.specs.Layout.{least_length}
use Rattle.view_meaning.specs.Survey.{points_end, record_count, record_length, format_of}
use Rattle.las_write.specs.Points.{HasPoints}

-- no format's least record is shorter than that of format 0
pub least_length-least : (format : ℕ) → format ≤ 10 → 20 ≤ least_length format
least_length-least zero known = omega arith
least_length-least (suc zero) known = omega arith
least_length-least (suc (suc zero)) known = omega arith
least_length-least (suc (suc (suc zero))) known = omega arith
least_length-least (suc (suc (suc (suc zero)))) known = omega arith
least_length-least (suc (suc (suc (suc (suc zero))))) known = omega arith
least_length-least (suc (suc (suc (suc (suc (suc zero)))))) known = omega arith
least_length-least (suc (suc (suc (suc (suc (suc (suc zero))))))) known = omega arith
least_length-least (suc (suc (suc (suc (suc (suc (suc (suc zero)))))))) known = omega arith
least_length-least (suc (suc (suc (suc (suc (suc (suc (suc (suc zero))))))))) known = omega arith
least_length-least (suc (suc (suc (suc (suc (suc (suc (suc (suc (suc zero)))))))))) known = omega arith
least_length-least (suc (suc (suc (suc (suc (suc (suc (suc (suc (suc (suc more))))))))))) known = absurd (omega arith)

-- the points of a survey of any known format
pub HasPoints-fitting : (b : List ℕ) → format_of b ≤ 10 → least_length (format_of b) ≤ record_length b → points_end b ≤ length b → record_count b ≤ 53687091 → HasPoints b
HasPoints-fitting b known fitting whole few =
    record { known = known; least = omega (arith, fitting, least_length-least (format_of b) known); whole = whole; few = few }
