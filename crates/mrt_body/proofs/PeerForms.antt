-- An index table is read as it is written, and what is read was written so.
use Rattle.std.proofs.Common.{◌≡◌, ℕ, ◌^◌, ◌<◌, Bool, true, false, List, ◌∷◌, ◌++◌, length, Ok, refl, sym, ap, subst, ◌∙◌, append_assoc}
use Rattle.std.specs.List.{flat_map}
use Rattle.byteorder.specs.Endian.{big_bytes}
use Rattle.mrt_frame.specs.declared.fault.Fault.TheVariants.{ShortRecord}
use Rattle.mrt_frame.specs.Fields.{◌>>=◌, byte_at, number_at, bytes_at}
use Rattle.mrt_frame.proofs.Items.{bind_ok, ok_is}
use Rattle.mrt_frame.proofs.FieldLaws.{IsBytes, byte_at-takes, byte_at-again, number_takes, number_at-again, bytes_at-takes, bytes_at-again}
use Rattle.bgp_update.specs.Segments.{number_len}
use Rattle.peer_units.specs.declared.unit.PeerAddr.{PeerAddr}
use Rattle.peer_units.specs.declared.unit.PeerAddr.TheVariants.{V4, V6}
use Rattle.peer_units.specs.declared.unit.PeerKey.{PeerKey}
use Rattle.mrt_body.specs.Many.{many}
use Rattle.mrt_body.specs.Indexes.{addr_bytes, is_ipv6, FitsAddr, asn_bytes, addr_at, asn_at, WrittenPeer, has_ipv6, asn_width, peer_bytes, FitsPeer, IndexForm, index_bytes, FitsIndex, written_peer_at, IndexHead, index_head_at, index_in, peers_of_index, peers_in}
use Rattle.mrt_body.specs.Agreement.{IsIndexBody}
use Rattle.mrt_body.proofs.ManyLaws.{Takes, Again, many-is, many-again}

-- ---- addresses

pub record TakesAddr (is_long : Bool) (bytes : List ℕ) (addr : PeerAddr) (rest : List ℕ) : Type 0 where
  pub parts : bytes ≡ addr_bytes addr ++ rest
  pub family : is_ipv6 addr ≡ is_long
  pub fits : FitsAddr addr
  pub fine : IsBytes rest

pub addr_takes : (is_long : Bool) (bytes : List ℕ) (x : PeerAddr × List ℕ) → IsBytes bytes → addr_at is_long bytes ≡ Ok x → TakesAddr is_long bytes x.0 x.1
addr_takes true bytes x fine e =
    let a = bind_ok (number_at ShortRecord 16 bytes) (λ addr. Ok (V6 addr.0, addr.1)) x e in
    let t = number_takes ShortRecord 16 bytes a.0 fine a.1 in
    subst (λ (y : PeerAddr × List ℕ). TakesAddr true bytes y.0 y.1) (ok_is (V6 a.0.0, a.0.1) x a.2) (record { parts = t.parts; family = refl; fits = t.below; fine = t.fine })
addr_takes false bytes x fine e =
    let a = bind_ok (number_at ShortRecord 4 bytes) (λ addr. Ok (V4 addr.0, addr.1)) x e in
    let t = number_takes ShortRecord 4 bytes a.0 fine a.1 in
    subst (λ (y : PeerAddr × List ℕ). TakesAddr false bytes y.0 y.1) (ok_is (V4 a.0.0, a.0.1) x a.2) (record { parts = t.parts; family = refl; fits = t.below; fine = t.fine })

pub addr_again : (is_long : Bool) (addr : PeerAddr) (rest : List ℕ) → is_ipv6 addr ≡ is_long → FitsAddr addr → addr_at is_long (addr_bytes addr ++ rest) ≡ Ok (addr, rest)
addr_again true (V6 addr) rest family fits = rw (number_at-again ShortRecord 16 addr rest fits) refl
addr_again false (V4 addr) rest family fits = rw (number_at-again ShortRecord 4 addr rest fits) refl
addr_again true (V4 addr) rest family fits = absurd cc
addr_again false (V6 addr) rest family fits = absurd cc

-- ---- a peer

abbrev peer_with : ℕ → ℕ → PeerAddr → ℕ → WrittenPeer
peer_with flags id addr asn = record { flags = flags; id = id; addr = addr; asn = asn }

three_parts : (a b c rest : List ℕ) → a ++ (b ++ (c ++ rest)) ≡ (a ++ (b ++ c)) ++ rest
three_parts a b c rest = ap (λ (l : List ℕ). a ++ l) (sym (append_assoc b c rest)) ∙ sym (append_assoc a (b ++ c) rest)

pub peer_takes : Takes written_peer_at peer_bytes FitsPeer
unfolding written_peer_at
peer_takes bytes x fine e =
    let f = bind_ok (byte_at ShortRecord bytes) (λ flags. number_at ShortRecord 4 flags.1 >>= λ id. addr_at (has_ipv6 flags.0) id.1 >>= λ addr. asn_at (asn_width flags.0) addr.1 >>= λ asn. Ok (peer_with flags.0 id.0 addr.0 asn.0, asn.1)) x e in
    let i = bind_ok (number_at ShortRecord 4 f.0.1) (λ id. addr_at (has_ipv6 f.0.0) id.1 >>= λ addr. asn_at (asn_width f.0.0) addr.1 >>= λ asn. Ok (peer_with f.0.0 id.0 addr.0 asn.0, asn.1)) x f.2 in
    let a = bind_ok (addr_at (has_ipv6 f.0.0) i.0.1) (λ addr. asn_at (asn_width f.0.0) addr.1 >>= λ asn. Ok (peer_with f.0.0 i.0.0 addr.0 asn.0, asn.1)) x i.2 in
    let n = bind_ok (asn_at (asn_width f.0.0) a.0.1) (λ asn. Ok (peer_with f.0.0 i.0.0 a.0.0 asn.0, asn.1)) x a.2 in
    let tf = byte_at-takes ShortRecord bytes f.0 f.1 in
    let ti = number_takes ShortRecord 4 f.0.1 i.0 (tf.1 fine) i.1 in
    let ta = addr_takes (has_ipv6 f.0.0) i.0.1 a.0 ti.fine a.1 in
    let tn = number_takes ShortRecord (number_len (asn_width f.0.0)) a.0.1 n.0 ta.fine n.1 in
    let id_bytes : List ℕ = big_bytes 4 i.0.0 in
    let last_bytes : List ℕ = asn_bytes (asn_width f.0.0) n.0.0 in
    let inner : f.0.1 ≡ (id_bytes ++ (addr_bytes a.0.0 ++ last_bytes)) ++ n.0.1 =
    ti.parts ∙ ap (λ (l : List ℕ). id_bytes ++ l) (ta.parts ∙ ap (λ (l : List ℕ). addr_bytes a.0.0 ++ l) tn.parts) ∙ three_parts id_bytes (addr_bytes a.0.0) last_bytes n.0.1 in
    subst (λ (y : WrittenPeer × List ℕ). (bytes ≡ peer_bytes y.0 ++ y.1) × FitsPeer y.0 × IsBytes y.1) (ok_is (peer_with f.0.0 i.0.0 a.0.0 n.0.0, n.0.1) x n.2)
    (tf.0 ∙ ap (λ (l : List ℕ). f.0.0 ∷ l) inner, record { flags = tf.2 fine; id = ti.below; family = ta.family; addr = ta.fits; asn = tn.below }, tn.fine)

pub peer_again : Again written_peer_at peer_bytes FitsPeer
unfolding written_peer_at
peer_again p rest h =
    let last_bytes : List ℕ = asn_bytes (asn_width p.flags) p.asn in
    let regrouped : peer_bytes p ++ rest ≡ p.flags ∷ (big_bytes 4 p.id ++ (addr_bytes p.addr ++ (last_bytes ++ rest))) = ap (λ (l : List ℕ). p.flags ∷ l) (sym (three_parts (big_bytes 4 p.id) (addr_bytes p.addr) last_bytes rest)) in
    ap written_peer_at regrouped
    ∙ rw (byte_at-again ShortRecord p.flags (big_bytes 4 p.id ++ (addr_bytes p.addr ++ (last_bytes ++ rest))), number_at-again ShortRecord 4 p.id (addr_bytes p.addr ++ (last_bytes ++ rest)) h.id, addr_again (has_ipv6 p.flags) p.addr (last_bytes ++ rest) h.family h.addr, number_at-again ShortRecord (number_len (asn_width p.flags)) p.asn rest h.asn) refl

-- ---- the table

abbrev pub head_with : ℕ → List ℕ → ℕ → IndexHead
head_with collector view count = record { collector = collector; view = view; count = count }

abbrev pub head_bytes : IndexHead → List ℕ → List ℕ
head_bytes head rest = big_bytes 4 head.collector ++ (big_bytes 2 (length head.view) ++ (head.view ++ (big_bytes 2 head.count ++ rest)))

pub record TakesHead (body : List ℕ) (head : IndexHead) (rest : List ℕ) : Type 0 where
  pub parts : body ≡ head_bytes head rest
  pub collector : head.collector < 256 ^ 4
  pub view : length head.view < 256 ^ 2
  pub count : head.count < 256 ^ 2
  pub fine : IsBytes rest

pub head_takes : (body : List ℕ) (x : IndexHead × List ℕ) → IsBytes body → index_head_at body ≡ Ok x → TakesHead body x.0 x.1
unfolding index_head_at
head_takes body x fine e =
    let k = bind_ok (number_at ShortRecord 4 body) (λ collector. number_at ShortRecord 2 collector.1 >>= λ len. bytes_at ShortRecord len.0 len.1 >>= λ view. number_at ShortRecord 2 view.1 >>= λ count. Ok (head_with collector.0 view.0 count.0, count.1)) x e in
    let l = bind_ok (number_at ShortRecord 2 k.0.1) (λ len. bytes_at ShortRecord len.0 len.1 >>= λ view. number_at ShortRecord 2 view.1 >>= λ count. Ok (head_with k.0.0 view.0 count.0, count.1)) x k.2 in
    let v = bind_ok (bytes_at ShortRecord l.0.0 l.0.1) (λ view. number_at ShortRecord 2 view.1 >>= λ count. Ok (head_with k.0.0 view.0 count.0, count.1)) x l.2 in
    let n = bind_ok (number_at ShortRecord 2 v.0.1) (λ count. Ok (head_with k.0.0 v.0.0 count.0, count.1)) x v.2 in
    let tk = number_takes ShortRecord 4 body k.0 fine k.1 in
    let tl = number_takes ShortRecord 2 k.0.1 l.0 tk.fine l.1 in
    let tv = bytes_at-takes ShortRecord l.0.0 l.0.1 v.0 v.1 in
    let tn = number_takes ShortRecord 2 v.0.1 n.0 (tv.2 tl.fine) n.1 in
    let inner : l.0.1 ≡ v.0.0 ++ (big_bytes 2 n.0.0 ++ n.0.1) = tv.0 ∙ ap (λ (t : List ℕ). v.0.0 ++ t) tn.parts in
    let named : big_bytes 2 l.0.0 ≡ big_bytes 2 (length v.0.0) = ap (big_bytes 2) (sym tv.1) in
    subst (λ (y : IndexHead × List ℕ). TakesHead body y.0 y.1) (ok_is (head_with k.0.0 v.0.0 n.0.0, n.0.1) x n.2) (record {
      parts = tk.parts ∙ ap (λ (t : List ℕ). big_bytes 4 k.0.0 ++ t) (tl.parts ∙ ap (λ (t : List ℕ). big_bytes 2 l.0.0 ++ t) inner ∙ ap (λ (t : List ℕ). t ++ (v.0.0 ++ (big_bytes 2 n.0.0 ++ n.0.1))) named);
      collector = tk.below;
      view = subst (λ (m : ℕ). m < 256 ^ 2) (sym tv.1) tl.below;
      count = tn.below;
      fine = tn.fine;
    })

pub head_again : (head : IndexHead) (rest : List ℕ) → head.collector < 256 ^ 4 → length head.view < 256 ^ 2 → head.count < 256 ^ 2 → index_head_at (head_bytes head rest) ≡ Ok (head, rest)
unfolding index_head_at
head_again head rest k v n =
    rw (number_at-again ShortRecord 4 head.collector (big_bytes 2 (length head.view) ++ (head.view ++ (big_bytes 2 head.count ++ rest))) k, number_at-again ShortRecord 2 (length head.view) (head.view ++ (big_bytes 2 head.count ++ rest)) v, bytes_at-again ShortRecord (length head.view) head.view (big_bytes 2 head.count ++ rest) refl, number_at-again ShortRecord 2 head.count rest n) refl

abbrev index_with : ℕ → List ℕ → List WrittenPeer → IndexForm
index_with collector view peers = record { collector = collector; view = view; peers = peers }

pub record TakesIndex (body : List ℕ) (form : IndexForm) : Type 0 where
  pub parts : body ≡ index_bytes form
  pub fits : FitsIndex form

index_takes : (body : List ℕ) (form : IndexForm) → IsBytes body → index_in body ≡ Ok form → TakesIndex body form
unfolding index_in
index_takes body form fine e =
    let h = bind_ok (index_head_at body) (λ head. many written_peer_at head.0.count head.1 >>= λ peers. Ok (index_with head.0.collector head.0.view peers)) form e in
    let p = bind_ok (many written_peer_at h.0.0.count h.0.1) (λ peers. Ok (index_with h.0.0.collector h.0.0.view peers)) form h.2 in
    let th = head_takes body h.0 fine h.1 in
    let tp = many-is written_peer_at peer_bytes FitsPeer peer_takes h.0.0.count h.0.1 p.0 th.fine p.1 in
    let head : IndexHead = head_with h.0.0.collector h.0.0.view (length p.0) in
    subst (TakesIndex body) (ok_is (index_with h.0.0.collector h.0.0.view p.0) form p.2) (record {
      parts = th.parts ∙ ap (λ (n : ℕ). head_bytes (head_with h.0.0.collector h.0.0.view n) h.0.1) (sym tp.number) ∙ ap (head_bytes head) tp.parts;
      fits = record { collector = th.collector; view = th.view; count = subst (λ (n : ℕ). n < 256 ^ 2) (sym tp.number) th.count; peers = tp.good };
    })

index_again : (form : IndexForm) → FitsIndex form → index_in (index_bytes form) ≡ Ok form
unfolding index_in
index_again form h =
    rw (head_again (head_with form.collector form.view (length form.peers)) (flat_map peer_bytes form.peers) h.collector h.view h.count, many-again written_peer_at peer_bytes FitsPeer peer_again form.peers h.peers) refl

-- ---- the peers of a table

pub index_body-is : (body : List ℕ) (peers : List PeerKey) → IsBytes body → peers_in body ≡ Ok peers → IsIndexBody body peers
unfolding peers_in
index_body-is body peers fine e =
    let f = bind_ok (index_in body) (λ form. Ok (peers_of_index form)) peers e in
    let t = index_takes body f.0 fine f.1 in
    record { form = f.0; fits = t.fits; spelled = t.parts; said = sym (ok_is (peers_of_index f.0) peers f.2) }

pub index_body-again : (body : List ℕ) (peers : List PeerKey) → IsIndexBody body peers → peers_in body ≡ Ok peers
unfolding peers_in
index_body-again body peers h =
    let read : index_in body ≡ Ok h.form = ap index_in h.spelled ∙ index_again h.form h.fits in
    rw read (ap (λ (ps : List PeerKey). Ok ps) (sym h.said))
