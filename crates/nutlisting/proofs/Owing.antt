-- What is offered of what is owed.
use Rattle.std.proofs.Common.{◌≡◌, ◌≤◌, ◌-◌, ℕ, List, ◌++◌, length, take}
use Rattle.std.proofs.Common.{Option, None, Some, ap, sym, ◌∙◌, arith, append_assoc}
use Rattle.std.proofs.Common.{length-append}
use Rattle.std.proofs.lemmas.List.{append-nil, take_all, take_at, take-append-drop}
use Rattle.nutlisting.specs.Items.{Position, rest}
use Rattle.nutlisting.specs.Counts.{what_fits, what_stays}
use Rattle.nutlisting.specs.Owed.{rest_of, IsOutbox}
use Rattle.nutlisting.specs.declared.outbox.TheConstants.{OWED_LIMIT}
use Rattle.nutlisting.specs.declared.outbox.TheConstants.{QUEUE_LIMIT}

-- only the queue
pub offered_is : (queue : List ℕ) (cursor : Option Position) → IsOutbox queue cursor →
    take QUEUE_LIMIT (queue ++ rest_of cursor) ≡ queue
offered_is queue None o = ap (take QUEUE_LIMIT) (append-nil queue) ∙ take_all QUEUE_LIMIT queue o.short
offered_is queue (Some cursor) o = take_at queue (rest cursor) QUEUE_LIMIT o.while_resting.full

-- where a line may be executed, what a new cursor has fits in part, and stays in part
pub joined_owed : (queue : List ℕ) (cursor : Option Position) (queue' : List ℕ)
    (cursor' : Option Position) (begun : Position) (text : List ℕ) → IsOutbox queue cursor
    → length (queue ++ rest_of cursor) ≤ OWED_LIMIT → queue' ≡ queue ++
    what_fits queue (rest begun) → rest_of cursor' ≡ what_stays queue (rest begun)
    → rest begun ≡ text → queue' ++ rest_of cursor' ≡ (queue ++ rest_of cursor) ++ text
joined_owed queue None queue' cursor' begun text o few r s t =
    ap (λ (a : List ℕ). a ++ rest_of cursor') r ∙
    ap (λ (b : List ℕ). (queue ++ what_fits queue (rest begun)) ++ b) s
    ∙ append_assoc queue (what_fits queue (rest begun)) (what_stays queue (rest begun)) ∙
    ap (λ (a : List ℕ). queue ++ a) (take-append-drop (QUEUE_LIMIT - length queue) (rest begun) ∙ t)
    ∙ ap (λ (a : List ℕ). a ++ text) (sym (append-nil queue))
joined_owed queue (Some c) queue' cursor' begun text o few r s t =
    absurd (omega (arith, few, o.while_resting.full, length-append queue (rest c)))
