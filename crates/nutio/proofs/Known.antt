-- A writer that failed after a front of a text.
use Rattle.std.proofs.Common.{◌≡◌, ℕ, List, [], ◌++◌, Option, Some, None, sym, subst}
use Rattle.std.proofs.Common.{refl, ◌∙◌, append-nil}
use Rattle.std.specs.Io.KnownBytes.{Appends, Keeps}
use Rattle.nutio.specs.Ends.{counted, Written, WriteFailed}
use Rattle.nutio.proofs.PublicLaws.{write_failed_joins}

-- what stays grows by nothing
keeps_appends : (a b : Option (List ℕ)) → Keeps a b → Appends a b []
keeps_appends None b h = tt
keeps_appends (Some xs) None h = absurd h
keeps_appends (Some xs) (Some ys) h = h ∙ sym (append-nil xs)

-- after a front the writer failed
pub breaks_off : {W : Type 0} (contents : W → Option (List ℕ)) (failures : W → ℕ)
    (w m a : W) (front rest text : List ℕ) → Written contents failures w front m → text ≡
    front ++ rest → Keeps (contents m) (contents a) → failures a ≡ counted (failures m) →
    WriteFailed contents failures w text a
breaks_off contents failures w m a front rest text h e k f =
    subst (λ t. WriteFailed contents failures w t a) (sym e)
    (write_failed_joins contents failures w m a front rest h
    (record {
      front = [];
      begins = (rest, refl);
      bytes_written = keeps_appends (contents m) (contents a) k;
      failed = f;
    }))
