-- The order of peers is total, and two of them tie only where they are the same.
use Rattle.std.proofs.Common.{◌≡◌, refl, sym, ap}
use Rattle.std.specs.Cmp.{IsTotalOrder, on_total, then_total}
use Rattle.std.proofs.lemmas.Cmp.{nat_cmp_total}
use Rattle.std.proofs.lemmas.Map.Lookups.{exact_unsigned}
use Rattle.std.specs.Ordering.{nat_cmp, ordering_then, ordering_reverse}
use Rattle.std.specs.declared.cmp.Ordering.{Ordering}
use Rattle.std.specs.declared.cmp.Ordering.TheVariants.{Less, Equal, Greater}
use Rattle.peer_units.specs.declared.unit.PeerAddr.{PeerAddr}
use Rattle.peer_units.specs.declared.unit.PeerAddr.TheVariants.{V4, V6}
use Rattle.peer_units.specs.declared.unit.PeerKey.{PeerKey}
use Rattle.mrt_body.specs.RibDumps.{addr_cmp, peer_cmp}

addr_total : IsTotalOrder addr_cmp
addr_total = record {
  antisymm = turned;
  trans = chained;
  congr = tied;
}
  where
    turned : (x y : PeerAddr) → addr_cmp x y ≡ ordering_reverse (addr_cmp y x)
    turned (V4 a) (V4 b) = nat_cmp_total.antisymm a b
    turned (V4 a) (V6 b) = refl
    turned (V6 a) (V4 b) = refl
    turned (V6 a) (V6 b) = nat_cmp_total.antisymm a b

    chained : (x y z : PeerAddr) → addr_cmp x y ≡ Less → addr_cmp y z ≡ Less → addr_cmp x z ≡ Less
    chained (V4 a) (V4 b) (V4 d) = nat_cmp_total.trans a b d
    chained (V4 a) (V4 b) (V6 d) = λ p q. refl
    chained (V4 a) (V6 b) (V4 d) = λ p q. absurd (let e = sym q in cc)
    chained (V4 a) (V6 b) (V6 d) = λ p q. refl
    chained (V6 a) (V4 b) z = λ p q. absurd cc
    chained (V6 a) (V6 b) (V4 d) = λ p q. absurd cc
    chained (V6 a) (V6 b) (V6 d) = nat_cmp_total.trans a b d

    tied : (x y z : PeerAddr) → addr_cmp x y ≡ Equal → addr_cmp x z ≡ addr_cmp y z
    tied (V4 a) (V4 b) (V4 d) = nat_cmp_total.congr a b d
    tied (V4 a) (V4 b) (V6 d) = λ p. refl
    tied (V4 a) (V6 b) z = λ p. absurd cc
    tied (V6 a) (V4 b) z = λ p. absurd cc
    tied (V6 a) (V6 b) (V4 d) = λ p. refl
    tied (V6 a) (V6 b) (V6 d) = nat_cmp_total.congr a b d

pub peer_total : IsTotalOrder peer_cmp
peer_total = then_total (on_total (λ (p : PeerKey). p.asn) nat_cmp_total) (on_total (λ (p : PeerKey). p.addr) addr_total)

addr_same : (x y : PeerAddr) → addr_cmp x y ≡ Equal → x ≡ y
addr_same (V4 a) (V4 b) e = ap V4 (exact_unsigned a b e)
addr_same (V4 a) (V6 b) e = absurd cc
addr_same (V6 a) (V4 b) e = absurd cc
addr_same (V6 a) (V6 b) e = ap V6 (exact_unsigned a b e)

both_tie : (o r : Ordering) → ordering_then o r ≡ Equal → (o ≡ Equal) × (r ≡ Equal)
both_tie Less r e = absurd cc
both_tie Equal r e = (refl, e)
both_tie Greater r e = absurd cc

pub peer_same : (p q : PeerKey) → peer_cmp p q ≡ Equal → p ≡ q
peer_same p q e =
    let b = both_tie (nat_cmp p.asn q.asn) (addr_cmp p.addr q.addr) e in
    λ i. record { asn = exact_unsigned p.asn q.asn b.0 i; addr = addr_same p.addr q.addr b.1 i }
