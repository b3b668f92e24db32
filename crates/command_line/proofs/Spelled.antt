-- What the parts of a text say of the prefix that it spells.
use Rattle.std.proofs.Common.{◌≡◌, ℕ, ◌+◌, ◌≤◌, ◌<◌, ◌^◌, List, ◌∷◌, ◌++◌, length, take, drop, Option, Some, None, IfSome, IfNone, refl, sym, ap, subst, ◌∙◌, arith}
use Rattle.std.specs.List.{position}
use Rattle.std.specs.Fmt.{decimal}
use Rattle.std.proofs.lemmas.Fmt.{decimal_injective}
use Rattle.bgp_prefix.specs.Prefixes.{IpPrefix, IsIpPrefix, network_of}
use Rattle.peer_units.specs.declared.choice.Reach.{Reach}
use Rattle.ip_text.proofs.WrittenLaws.{IsIpv6Text-short_ipv6_text}
use Rattle.ip_text.specs.Ipv6Texts.{short_ipv6_text}
use Rattle.ip_text.specs.Spellings.{IsIpv6Text}
use Rattle.command_line.specs.Choices.{IsPlain, IsPrefixWithin, SpellsPrefix, with_length, alone, SpellsReach, short_prefix_text}
use Rattle.command_line.proofs.Slashes.{is_slash, no_slash, slash_behind, front_of_slash, rest_of_slash}
use Rattle.command_line.proofs.Marks.{prefix_ends, one_reach}

-- a prefix with this address and this length
of_parts : (width : ℕ) (p : IpPrefix) (addr len : ℕ) → p.addr ≡ addr → p.len ≡ len → IsPrefixWithin width p → IsPrefixWithin width (record { addr = addr; len = len })
of_parts width p addr len ea el ip = (
  record {
    short = subst (λ k. k ≤ 128) el ip.0.short;
    fits = subst (λ n. n < 2 ^ 128) ea ip.0.fits;
    cleared = subst (λ n. network_of n len ≡ n) ea (subst (λ k. network_of p.addr k ≡ p.addr) el ip.0.cleared);
  },
  subst (λ k. k ≤ width) el ip.1,
)

pub written_prefix : (p : IpPrefix) → IsIpPrefix p → SpellsPrefix IsIpv6Text 128 (short_prefix_text p) p
written_prefix p ip = with_length (short_ipv6_text p.addr) refl (IsIpv6Text-short_ipv6_text p.addr ip.fits) (ip, ip.short)

module _ (Spells : List ℕ → ℕ → Type 0) (width : ℕ) (one : (text : List ℕ) (a b : ℕ) → Spells text a → Spells text b → a ≡ b) (plain : (text : List ℕ) (bits : ℕ) → Spells text bits → IsPlain text) where
  same_length : (p : IpPrefix) (len : ℕ) → p.len ≤ 128 → len ≤ 128 → decimal p.len ≡ decimal len → p.len ≡ len
  same_length p len short small e = decimal_injective p.len len (omega arith) (omega arith) e

  -- where the address and the length that were read make no prefix, no other does
  pub none_of_parts : (o : Option IpPrefix) (front back : List ℕ) (addr len : ℕ) → Spells front addr → back ≡ decimal len → len ≤ 128 → IfNone o (IsPrefixWithin width (record { addr = addr; len = len }) → ⊥) → IfNone o ((p : IpPrefix) → Spells front p.addr → back ≡ decimal p.len → IsPrefixWithin width p → ⊥)
  none_of_parts (Some p) front back addr len a e small h = tt
  none_of_parts None front back addr len a e small h = λ p b w ip.
      h (of_parts width p addr len (one front p.addr addr b a) (same_length p len ip.0.short small (sym w ∙ e)) ip)

  pub some_spelled : (o : Option IpPrefix) (text front back : List ℕ) → text ≡ front ++ 47 ∷ back → IfSome o (λ p. Spells front p.addr × (back ≡ decimal p.len) × IsPrefixWithin width p) → IfSome o (SpellsPrefix Spells width text)
  some_spelled None text front back e h = tt
  some_spelled (Some p) text front back e h = with_length front (e ∙ ap (λ l. front ++ 47 ∷ l) h.1) h.0 h.2

  pub some_alone : (o : Option IpPrefix) (text : List ℕ) → IfSome o (λ p. Spells text p.addr × (p.len ≡ width)) → IfSome o (SpellsPrefix Spells width text)
  some_alone None text h = tt
  some_alone (Some p) text h = alone h.0 h.1

  none_at : (text back : List ℕ) (slash : ℕ) → position is_slash text ≡ Some slash → back ≡ drop (slash + 1) text → ((q : IpPrefix) → Spells (take slash text) q.addr → back ≡ decimal q.len → IsPrefixWithin width q → ⊥) → (p : IpPrefix) → SpellsPrefix Spells width text p → ⊥
  none_at text back slash found rest h p (with_length front e a ip) =
      h p (subst (λ t. Spells t p.addr) (sym (front_of_slash text front (decimal p.len) slash (plain front p.addr a) e found)) a) (rest ∙ rest_of_slash text front (decimal p.len) slash (plain front p.addr a) e found) ip
  none_at text back slash found rest h p (alone a e) = no_slash text slash (plain text p.addr a) found

  pub none_spelled : (o : Option IpPrefix) (text back : List ℕ) (slash : ℕ) → position is_slash text ≡ Some slash → back ≡ drop (slash + 1) text → IfNone o ((q : IpPrefix) → Spells (take slash text) q.addr → back ≡ decimal q.len → IsPrefixWithin width q → ⊥) → IfNone o ((p : IpPrefix) → SpellsPrefix Spells width text p → ⊥)
  none_spelled (Some p) text back slash found rest h = tt
  none_spelled None text back slash found rest h = none_at text back slash found rest h

  none_alone : (text : List ℕ) → position is_slash text ≡ None → ((bits : ℕ) → Spells text bits → ⊥) → (p : IpPrefix) → SpellsPrefix Spells width text p → ⊥
  none_alone text none h p (with_length front e a ip) = let at = slash_behind text front (decimal p.len) (plain front p.addr a) e in absurd cc
  none_alone text none h p (alone a e) = h p.addr a

  pub none_without_slash : (o : Option IpPrefix) (text : List ℕ) → position is_slash text ≡ None → IfNone o ((bits : ℕ) → Spells text bits → ⊥) → IfNone o ((p : IpPrefix) → SpellsPrefix Spells width text p → ⊥)
  none_without_slash (Some p) text none h = tt
  none_without_slash None text none h = none_alone text none h

  -- ---- one prefix to a text

  same_prefix : (p q : IpPrefix) → p.addr ≡ q.addr → p.len ≡ q.len → p ≡ q
  same_prefix p q addr len = λ i. record { addr = addr i; len = len i }

  pub one_prefix : (text : List ℕ) (p q : IpPrefix) → SpellsPrefix Spells width text p → SpellsPrefix Spells width text q → p ≡ q
  one_prefix text p q (with_length front e a ip) (with_length back f b iq) =
      let at = slash_behind text front (decimal p.len) (plain front p.addr a) e in
      let same : front ≡ back = sym (front_of_slash text front (decimal p.len) (length front) (plain front p.addr a) e at) ∙ front_of_slash text back (decimal q.len) (length front) (plain back q.addr b) f at in
      let rest : decimal p.len ≡ decimal q.len = sym (rest_of_slash text front (decimal p.len) (length front) (plain front p.addr a) e at) ∙ rest_of_slash text back (decimal q.len) (length front) (plain back q.addr b) f at in
      same_prefix p q (one back p.addr q.addr (subst (λ t. Spells t p.addr) same a) b) (same_length p q.len ip.0.short iq.0.short rest)
  one_prefix text p q (with_length front e a ip) (alone b f) = absurd (no_slash text (length front) (plain text q.addr b) (slash_behind text front (decimal p.len) (plain front p.addr a) e))
  one_prefix text p q (alone a e) (with_length back f b iq) = absurd (no_slash text (length back) (plain text p.addr a) (slash_behind text back (decimal q.len) (plain back q.addr b) f))
  one_prefix text p q (alone a e) (alone b f) = same_prefix p q (one text p.addr q.addr a b) (e ∙ sym f)

  pub one_choice : (text : List ℕ) (p q : IpPrefix) (r s : Reach) → SpellsReach Spells width text p r → SpellsReach Spells width text q s → (p ≡ q) × (r ≡ s)
  one_choice text p q r s h k =
      let same = one_reach text h.front k.front r s (prefix_ends Spells width plain h.front p h.spelled) (prefix_ends Spells width plain k.front q k.spelled) h.written k.written in
      (one_prefix k.front p q (subst (λ t. SpellsPrefix Spells width t p) same.0 h.spelled) k.spelled, same.1)
