use Rattle.std.proofs.Common.{rules, ◌≡◌, ◌≤◌, ℕ, List, length, true, false, Some}
use Rattle.std.proofs.Common.{arith, refl, ap, sym, ◌∙◌}
use Rattle.std.specs.Str.{is_utf8}
use Rattle.std.proofs.lemmas.Bool.{eqb-false}
use Rattle.std.proofs.lemmas.Str.{is_utf8-from_IsUtf8, IsUtf8-from_is_utf8}
use Rattle.nutusers.specs.UpsFile.{is_socket}
use Rattle.nutusers.specs.declared.limits.TheConstants.{SOCKET_LIMIT}
use Rattle.nutusers.proofs.ups_list.file.socket_path.Goals as goal

-- bytes of UTF-8 within the limit are a path
is_socket-true : (bytes : List ℕ) → 1 ≤ length bytes → length bytes ≤ SOCKET_LIMIT →
    is_utf8 bytes ≡ true → is_socket bytes ≡ true
is_socket-true bytes some most utf8 = rw utf8 (search rules)

-- other bytes are none
is_socket-false : (bytes : List ℕ) → is_utf8 bytes ≡ false → is_socket bytes ≡ false
is_socket-false bytes other = rw other (search rules)

pub returns-in-Ok : goal.returns-in-Ok
returns-in-Ok c =
    let bytes = c.args.bytes.now in
    let some : 1 ≤ length bytes = omega
    (arith, eqb-false (length bytes) 0 (sym c.is_empty.ensures ∙ c.if-is_empty.false)) in
    let copied : c.unwrap.result.bytes ≡ bytes = (rw c.unwrap.ensures at c.from.ensures.ok) ∙
    c.in-Ok.ensures.cases.0 in
    rw (is_socket-true bytes some c.if-bytes-gt-SOCKET_LIMIT.false
    (is_utf8-from_IsUtf8 bytes c.in-Ok.ensures.cases.1)) (ap Some copied)

pub returns-in-Err : goal.returns-in-Err
returns-in-Err c =
    let bytes = c.args.bytes.now in
    let other : is_utf8 bytes ≡ false = elim (is_utf8 bytes) as (λ v. is_utf8 bytes ≡ v → v ≡ false) [
      | true ↦ λ e. absurd (c.in-Err.ensures.cases.0 (IsUtf8-from_is_utf8 bytes e))
      | false ↦ λ e. refl
    ] refl in
    rw (is_socket-false bytes other) refl
