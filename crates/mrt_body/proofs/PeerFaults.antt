-- Which fault an index table has.
use Rattle.std.proofs.Common.{◌≡◌, ◌⊎◌, inl, inr, ℕ, ◌<◌, ◌^◌, List, ◌++◌, length, Ok, Err, refl, sym, ap, subst, ◌∙◌, append_assoc}
use Rattle.std.specs.List.{flat_map}
use Rattle.mrt_frame.specs.declared.fault.Fault.{Fault}
use Rattle.mrt_frame.specs.declared.fault.Fault.TheVariants.{ShortRecord, TrailingBytes}
use Rattle.mrt_frame.specs.Fields.{◌>>=◌, byte_at, number_at, bytes_at}
use Rattle.mrt_frame.proofs.FieldLaws.{IsBytes}
use Rattle.bgp_update.proofs.Readings.{mapped_err}
use Rattle.peer_units.specs.declared.unit.PeerKey.{PeerKey}
use Rattle.mrt_body.specs.Many.{many}
use Rattle.mrt_body.specs.Indexes.{addr_at, asn_at, has_ipv6, asn_width, peer_bytes, FitsPeer, IndexForm, index_bytes, FitsIndex, written_peer_at, IndexHead, index_head_at, index_in, peers_of_index, peers_in}
use Rattle.mrt_body.specs.Agreement.{IsIndexBody}
use Rattle.mrt_body.proofs.ManyLaws.{BreaksOff, GoesOn, many-unread, many-goes_on}
use Rattle.peer_units.proofs.MessageLaws.{ok_never}
use Rattle.mrt_body.proofs.ShortFields.{IsShort, then_short, only_short, byte_short, number_short, bytes_short, addr_short, asn_short}
use Rattle.mrt_body.proofs.PeerForms.{head_with, head_bytes, head_takes, head_again, peer_takes, peer_again}

peer_short : (bytes : List ℕ) → IsShort (written_peer_at bytes)
unfolding written_peer_at
peer_short bytes fault e =
    only_short (then_short (byte_at ShortRecord bytes) (λ flags. number_at ShortRecord 4 flags.1 >>= λ id. addr_at (has_ipv6 flags.0) id.1 >>= λ addr. asn_at (asn_width flags.0) addr.1 >>= λ asn. Ok (record { flags = flags.0; id = id.0; addr = addr.0; asn = asn.0 }, asn.1)) fault (byte_short bytes) (λ f f_is fe.
    then_short (number_at ShortRecord 4 f.1) (λ id. addr_at (has_ipv6 f.0) id.1 >>= λ addr. asn_at (asn_width f.0) addr.1 >>= λ asn. Ok (record { flags = f.0; id = id.0; addr = addr.0; asn = asn.0 }, asn.1)) fault (number_short 4 f.1) (λ i i_is ie.
    then_short (addr_at (has_ipv6 f.0) i.1) (λ addr. asn_at (asn_width f.0) addr.1 >>= λ asn. Ok (record { flags = f.0; id = i.0; addr = addr.0; asn = asn.0 }, asn.1)) fault (addr_short (has_ipv6 f.0) i.1) (λ a a_is ae.
    then_short (asn_at (asn_width f.0) a.1) (λ asn. Ok (record { flags = f.0; id = i.0; addr = a.0; asn = asn.0 }, asn.1)) fault (asn_short (asn_width f.0) a.1) (λ n n_is ne.
    ok_never (record { flags = f.0; id = i.0; addr = a.0; asn = n.0 }, n.1) fault ne) ae) ie) fe) e)

head_short : (body : List ℕ) → IsShort (index_head_at body)
unfolding index_head_at
head_short body fault e =
    only_short (then_short (number_at ShortRecord 4 body) (λ collector. number_at ShortRecord 2 collector.1 >>= λ len. bytes_at ShortRecord len.0 len.1 >>= λ view. number_at ShortRecord 2 view.1 >>= λ count. Ok (head_with collector.0 view.0 count.0, count.1)) fault (number_short 4 body) (λ k k_is ke.
    then_short (number_at ShortRecord 2 k.1) (λ len. bytes_at ShortRecord len.0 len.1 >>= λ view. number_at ShortRecord 2 view.1 >>= λ count. Ok (head_with k.0 view.0 count.0, count.1)) fault (number_short 2 k.1) (λ l l_is le.
    then_short (bytes_at ShortRecord l.0 l.1) (λ view. number_at ShortRecord 2 view.1 >>= λ count. Ok (head_with k.0 view.0 count.0, count.1)) fault (bytes_short l.0 l.1) (λ v v_is ve.
    then_short (number_at ShortRecord 2 v.1) (λ count. Ok (head_with k.0 v.0 count.0, count.1)) fault (number_short 2 v.1) (λ n n_is ne.
    ok_never (head_with k.0 v.0 n.0, n.1) fault ne) ve) le) ke) e)

-- an index table, and then more bytes
pub record IndexAndMore (body : List ℕ) : Type 0 where
  pub form : IndexForm
  pub more : List ℕ
  pub fits : FitsIndex form
  pub parts : body ≡ index_bytes form ++ more
  pub some : 0 < length more

behind_head : (head : IndexHead) (front more : List ℕ) → head_bytes head (front ++ more) ≡ head_bytes head front ++ more
behind_head head front more = sym (simp append_assoc)

index_refused : (body : List ℕ) (fault : Fault) → IsBytes body → index_in body ≡ Err fault → ((fault ≡ TrailingBytes) × IndexAndMore body) ⊎ (fault ≡ ShortRecord)
unfolding index_in
index_refused body fault fine e =
    then_short (index_head_at body) (λ head. many written_peer_at head.0.count head.1 >>= λ peers. Ok (record { collector = head.0.collector; view = head.0.view; peers = peers })) fault (head_short body) (λ h h_is he.
    let t = head_takes body h fine h_is in
    let unread = mapped_err (many written_peer_at h.0.count h.1) (λ peers. record { collector = h.0.collector; view = h.0.view; peers = peers }) fault he in
    by_peers h t.parts t.collector t.view t.count (many-unread written_peer_at peer_bytes FitsPeer peer_takes h.0.count h.1 fault t.fine unread)) e
  where
    by_peers : (h : IndexHead × List ℕ) → body ≡ head_bytes h.0 h.1 → h.0.collector < 256 ^ 4 → length h.0.view < 256 ^ 2 → h.0.count < 256 ^ 2 → BreaksOff written_peer_at peer_bytes FitsPeer h.0.count h.1 fault ⊎ ((fault ≡ TrailingBytes) × GoesOn written_peer_at peer_bytes FitsPeer h.0.count h.1) → ((fault ≡ TrailingBytes) × IndexAndMore body) ⊎ (fault ≡ ShortRecord)
    by_peers h parts k v n (inl b) = inr (peer_short b.rest fault b.refused)
    by_peers h parts k v n (inr m) = inl (
      m.0,
      record {
        form = record { collector = h.0.collector; view = h.0.view; peers = m.1.items };
        more = m.1.more;
        fits = record { collector = k; view = v; count = subst (λ (c : ℕ). c < 256 ^ 2) (sym m.1.number) n; peers = m.1.good };
        parts = parts ∙ ap (head_bytes h.0) m.1.parts ∙ behind_head h.0 (flat_map peer_bytes m.1.items) m.1.more ∙ ap (λ (c : ℕ). head_bytes (head_with h.0.collector h.0.view c) (flat_map peer_bytes m.1.items) ++ m.1.more) (sym m.1.number);
        some = m.1.some;
      },
    )

index_goes_on : (form : IndexForm) (more : List ℕ) → FitsIndex form → 0 < length more → index_in (index_bytes form ++ more) ≡ Err TrailingBytes
unfolding index_in
index_goes_on form more h some =
    let head : IndexHead = head_with form.collector form.view (length form.peers) in
    ap index_in (sym (behind_head head (flat_map peer_bytes form.peers) more))
    ∙ rw (head_again head (flat_map peer_bytes form.peers ++ more) h.collector h.view h.count, many-goes_on written_peer_at peer_bytes FitsPeer peer_again form.peers more h.peers some) refl

-- ---- the peers of a table

pub peers_refused : (body : List ℕ) (fault : Fault) → IsBytes body → peers_in body ≡ Err fault → ((fault ≡ TrailingBytes) × IndexAndMore body) ⊎ (fault ≡ ShortRecord)
unfolding peers_in
peers_refused body fault fine e = index_refused body fault fine (mapped_err (index_in body) peers_of_index fault e)

pub peers_go_on : (front more : List ℕ) (peers : List PeerKey) → IsIndexBody front peers → 0 < length more → peers_in (front ++ more) ≡ Err TrailingBytes
unfolding peers_in
peers_go_on front more peers h some =
    let read : index_in (front ++ more) ≡ Err TrailingBytes = ap (λ (l : List ℕ). index_in (l ++ more)) h.spelled ∙ index_goes_on h.form more h.fits some in
    rw read refl
