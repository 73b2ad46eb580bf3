-- A line of which a writer took only a beginning.
use Rattle.std.proofs.Common.{◌≡◌, ◌<◌, ℕ, List, ◌∷◌, ◌++◌, Option, Some, None}
use Rattle.std.proofs.Common.{sym, ap, ◌∙◌, drop, take, length, get_or, suc}
use Rattle.std.proofs.Math.Seq.{drop-cons}
use Rattle.std.proofs.lemmas.List.{take-append-drop}
use Rattle.std.specs.Io.KnownBytes.{Appends, Keeps}
use Rattle.nutio.specs.Ends.{counted, Written, WriteFailed}
use Rattle.nutrequest.specs.Orders.{CutShort}

-- what grew by these bytes, and then stays, grew by these bytes
grown : (a b c : Option (List ℕ)) (bytes : List ℕ) → Appends a b bytes → Keeps b c → Appends a c bytes
grown None b c bytes h k = tt
grown (Some xs) None c bytes h k = absurd h
grown (Some xs) (Some ys) None bytes h k = absurd k
grown (Some xs) (Some ys) (Some zs) bytes h k = k ∙ h

-- so many bytes of the line were taken, not all, and then a write failed
pub cut_short : {W : Type 0} (contents : W → Option (List ℕ)) (failures : W → ℕ) (w m a : W) (n : ℕ)
    (line : List ℕ) → n < length line → Written contents failures w (take n line) m
    → Keeps (contents m) (contents a) → failures a ≡ counted (failures m)
    → CutShort contents failures w line a
cut_short contents failures w m a n line within h k f = record {
  front = take n line;
  begins = (
    get_or line n 0,
    drop (suc n) line,
    sym (take-append-drop n line) ∙
        ap (λ rest. take n line ++ rest) (drop-cons line n 0 within),
  );
  bytes_written = grown (contents w) (contents m) (contents a) (take n line) h.bytes_written k;
  failed = f ∙ ap counted h.well;
}

-- a line that was cut short isn't whole
pub not_whole : {W : Type 0} (contents : W → Option (List ℕ)) (failures : W → ℕ) (w a : W)
    (line : List ℕ) → CutShort contents failures w line a → WriteFailed contents failures w line a
not_whole contents failures w a line h = record {
  front = h.front;
  begins = (h.begins.0 ∷ h.begins.1, h.begins.2);
  bytes_written = h.bytes_written;
  failed = h.failed;
}
