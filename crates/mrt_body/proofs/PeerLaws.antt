-- The peers of an index table, read one after the other.
use Rattle.std.proofs.Common.{◌≡◌, ℕ, List, map, Result, Ok, Err, refl, sym, ◌∙◌}
use Rattle.mrt_frame.specs.declared.fault.Fault.{Fault}
use Rattle.mrt_frame.specs.Fields.{Reading, ◌>>=◌}
use Rattle.mrt_body.specs.Many.{many}
use Rattle.mrt_body.specs.Indexes.{WrittenPeer, IndexHead, IndexForm, written_peer_at, peer_at, peer_of, index_head_at, index_in, peers_of_index, peer_count_at, peers_in}
use Rattle.mrt_body.proofs.ManyLaws.{many-map}

of_form : (head : IndexHead) (r : Result (List WrittenPeer) Fault)
    → (◌>>=◌ {B = IndexForm} r (λ peers. Ok (record { collector = head.collector; view = head.view; peers = peers })) >>= λ form. Ok (peers_of_index form)) ≡ (r >>= λ ps. Ok (map peer_of ps))
of_form head (Ok ps) = refl
of_form head (Err fault) = refl

peers-map : (n : ℕ) (bytes : List ℕ) → many peer_at n bytes ≡ (many written_peer_at n bytes >>= λ ps. Ok (map peer_of ps))
unfolding peer_at
peers-map n bytes = many-map written_peer_at peer_of n bytes

by_head : (r : Reading IndexHead)
    → ((r >>= λ head. many written_peer_at head.0.count head.1 >>= λ peers. Ok (record { collector = head.0.collector; view = head.0.view; peers = peers })) >>= λ form. Ok (peers_of_index form))
    ≡ (◌>>=◌ {B = ℕ × List ℕ} r (λ head. Ok (head.0.count, head.1)) >>= λ n. many peer_at n.0 n.1)
by_head (Ok head) = of_form head.0 (many written_peer_at head.0.count head.1) ∙ sym (peers-map head.0.count head.1)
by_head (Err fault) = refl

pub peers_in-is : (body : List ℕ) → peers_in body ≡ (peer_count_at body >>= λ n. many peer_at n.0 n.1)
unfolding peers_in index_in peer_count_at
peers_in-is body = by_head (index_head_at body)
