-- The segments of an IPv6 address, as its text is read.
use Rattle.std.proofs.Common.{◌≡◌, ◌∙◌, ℕ, List, [], ◌∷◌, Option, Some, None, refl, ap, sym, subst, arith}
use Rattle.std.proofs.lemmas.List.{append-nil}
use Rattle.std.proofs.NetLemmas.Ipv6.{EndsGroups-nil, read_ipv6_complete, read_ipv6_sound}
use Rattle.std.specs.declared.net.ipv6_addr.Ipv6Addr.{Ipv6Addr}
use Rattle.std.specs.Net.Addr.{ipv6_segments}
use Rattle.std.specs.Net.Grammar.{IsColonHex, IsIpv6Text}
use Rattle.std.specs.Net.Reader.{read_ipv6, whole_value}
use Rattle.std.specs.Prelude.{option_map}
use Rattle.nutjournal.specs.Network.{half_of, half_read}

is_read : (text : List ℕ) (a : Ipv6Addr) → IsIpv6Text text a → whole_value (read_ipv6 text) ≡ Some (ipv6_segments a)
is_read text a h =
    ap whole_value (subst (λ t. read_ipv6 t ≡ Some (ipv6_segments a, [])) (append-nil text)
    (read_ipv6_complete text (ipv6_segments a) [] h EndsGroups-nil))

none_read : (text : List ℕ) (read : Option (List ℕ × List ℕ)) → ((a : Ipv6Addr) → ¬ (IsIpv6Text text a))
    → read_ipv6 text ≡ read → whole_value read ≡ None
none_read text None none is = refl
none_read text (Some (segments, [])) none is =
    let (front, split, hex) = read_ipv6_sound text segments [] is in
    absurd (none (record { segments = segments }) (subst (λ t. IsColonHex t segments) (sym (split ∙ append-nil front)) hex))
none_read text (Some (segments, x ∷ rest)) none is = grind arith

is_unread : (text : List ℕ) → ((a : Ipv6Addr) → ¬ (IsIpv6Text text a)) → whole_value (read_ipv6 text) ≡ None
is_unread text none = none_read text (read_ipv6 text) none refl

pub is_half : (text : List ℕ) (a : Ipv6Addr) → IsIpv6Text text a → half_read text ≡ Some (half_of (ipv6_segments a))
is_half text a h = ap (option_map half_of) (is_read text a h)

pub no_half : (text : List ℕ) → ((a : Ipv6Addr) → ¬ (IsIpv6Text text a)) → half_read text ≡ None
no_half text none = ap (option_map half_of) (is_unread text none)
