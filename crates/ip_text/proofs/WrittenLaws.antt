-- The text of an address spells the address.
use Rattle.std.proofs.Common.{◌≡◌, ℕ, zero, suc, ◌+◌, ◌-◌, ◌/◌, ◌%◌, ◌*◌, ◌^◌, ◌<◌, ◌≤◌, List, [], ◌∷◌, ◌++◌, length, get_or, take, drop, refl, sym, ap, ◌∙◌, subst, arith, inl, inr, lt-ltb, le-ltb, take-add, take-append-drop, length-take-le, length-drop}
use Rattle.std.proofs.lemmas.Bool.{cases_lt}
use Rattle.std.proofs.Math.Seq.{take-length}
use Rattle.std.proofs.Math.Nat.{div-one, div-div-eq-div-mul, pow-suc}
use Rattle.std.proofs.NetLemmas.Texts.{AllSegments, AllSegments-take, AllSegments-drop, IsZeroRun-longest_zero_run, longest_zero_run_first}
use Rattle.std.specs.Net.Text.{longest_zero_run}
use Rattle.std.specs.List.{fold}
use Rattle.ip_text.specs.Digits.{groups_of}
use Rattle.ip_text.specs.Ipv6Texts.{hexadecimal, groups_text, shortened_text, short_ipv6_text}
use Rattle.ip_text.specs.Spellings.{number_of_groups, AreGroups, Spells, IsIpv6Text}
use Rattle.ip_text.specs.ZeroRuns.{IsFirstLongest}
use Rattle.ip_text.proofs.HexLaws.{IsGroupText-hexadecimal}

AreGroups-groups_text : (groups : List ℕ) → AllSegments groups → AreGroups (groups_text groups) groups
AreGroups-groups_text [] all = refl
AreGroups-groups_text (g ∷ []) all = IsGroupText-hexadecimal g (all 0)
AreGroups-groups_text (g ∷ next ∷ groups) all = (hexadecimal g, groups_text (next ∷ groups), refl, IsGroupText-hexadecimal g (all 0), AreGroups-groups_text (next ∷ groups) (λ k. all (suc k)))

Spells-shortened_text : (groups : List ℕ) → length groups ≡ 8 → AllSegments groups → Spells (shortened_text groups) groups
Spells-shortened_text groups eight fits =
    let start = (longest_zero_run groups).0 in
    let len = (longest_zero_run groups).1 in
    let (within, zeros) = IsZeroRun-longest_zero_run groups in
    let front = length-take-le start groups (omega arith) in
    let back = length-drop (start + len) groups in
    let gap : 8 - length (take start groups) - length (drop (start + len) groups) ≡ len = omega arith in
    elim (cases_lt 1 len) [
      | inl long ↦ rw (lt-ltb 1 len long) (inr (record {
        head_text = _;
        tail_text = _;
        head = take start groups;
        tail = drop (start + len) groups;
        written = refl;
        head_groups = AreGroups-groups_text _ (AllSegments-take start groups fits);
        tail_groups = AreGroups-groups_text _ (AllSegments-drop (start + len) groups fits);
        fewer = omega arith;
        value = rw (gap, ← zeros, ← take-add start len groups) (sym (take-append-drop (start + len) groups));
      }))
      | inr short ↦ rw (le-ltb 1 len short) (inl (AreGroups-groups_text groups fits, eight))
    ]

pub length-groups_of : (size count n : ℕ) → length (groups_of size count n) ≡ count
length-groups_of size zero n = refl
length-groups_of size (suc count) n = ap suc (length-groups_of size count n)

fits-groups_of : (count n : ℕ) → AllSegments (groups_of 65536 count n)
fits-groups_of zero n k = omega arith
fits-groups_of (suc count) n k =
    let later = fits-groups_of count n in
    elim k as (λ j. get_or (groups_of 65536 (suc count) n) j 0 < 2 ^ 16) [ zero ↦ omega arith | suc j ↦ later j ]

-- the groups that are left add themselves to those before them
number_behind : (count n : ℕ) → fold (λ m group. m * 65536 + group) (n / 65536 ^ count) (groups_of 65536 count n) ≡ n
number_behind zero n = div-one n
number_behind (suc count) n =
    let up : n / 65536 ^ suc count * 65536 + n / 65536 ^ count % 65536 ≡ n / 65536 ^ count =
    let above : n / 65536 ^ suc count ≡ n / 65536 ^ count / 65536 = ap (λ m. n / m) (pow-suc 65536 count) ∙ sym (div-div-eq-div-mul n (65536 ^ count) 65536) in
    rw above (omega arith) in
    ap (λ m. fold (λ m group. m * 65536 + group) m (groups_of 65536 count n)) up ∙ number_behind count n

pub number_of_groups_of : (n : ℕ) → n < 2 ^ 128 → number_of_groups 65536 (groups_of 65536 8 n) ≡ n
number_of_groups_of n h =
    let none : n / 65536 ^ 8 ≡ 0 = omega arith in
    ap (λ m. fold (λ m group. m * 65536 + group) m (groups_of 65536 8 n)) (sym none) ∙ number_behind 8 n

pub IsIpv6Text-short_ipv6_text : (n : ℕ) → n < 2 ^ 128 → IsIpv6Text (short_ipv6_text n) n
IsIpv6Text-short_ipv6_text n h = record {
  groups = groups_of 65536 8 n;
  spelled = Spells-shortened_text (groups_of 65536 8 n) (length-groups_of 65536 8 n) (fits-groups_of 8 n);
  value = sym (number_of_groups_of n h);
}

pub first_longest : (groups : List ℕ) → IsFirstLongest groups (longest_zero_run groups).0 (longest_zero_run groups).1
first_longest groups = record {
  run = let (within, zeros) = IsZeroRun-longest_zero_run groups in record { within = within; zeros = zeros };
  longest = λ s n h. (longest_zero_run_first groups s n (h.within, h.zeros)).0;
  first = λ s n h. (longest_zero_run_first groups s n (h.within, h.zeros)).1;
}

pub shortened_long : (groups : List ℕ) → 1 < (longest_zero_run groups).1 → shortened_text groups ≡ groups_text (take (longest_zero_run groups).0 groups) ++ 58 ∷ 58 ∷ [] ++ groups_text (drop ((longest_zero_run groups).0 + (longest_zero_run groups).1) groups)
shortened_long groups long = rw (lt-ltb 1 (longest_zero_run groups).1 long) refl

-- the pieces on the two sides of `::`, as slices
pub short_pieces : (addr : ℕ) (groups : List ℕ) (run : ℕ × ℕ) → groups ≡ groups_of 65536 8 addr → run ≡ longest_zero_run groups → 2 ≤ run.1
    → groups_text (take run.0 groups) ++ 58 ∷ 58 ∷ [] ++ groups_text (take (8 - (run.0 + run.1)) (drop (run.0 + run.1) groups)) ≡ short_ipv6_text addr
short_pieces addr groups run same is long =
    let back = drop (run.0 + run.1) groups in
    let eight : length groups ≡ 8 = ap length same ∙ length-groups_of 65536 8 addr in
    let rest : 8 - (run.0 + run.1) ≡ length back = omega (arith, length-drop (run.0 + run.1) groups, eight) in
    let whole : take (8 - (run.0 + run.1)) back ≡ back = ap (λ k. take k back) rest ∙ take-length back in
    let more : 1 < (longest_zero_run groups).1 = subst (λ (r : ℕ × ℕ). 2 ≤ r.1) is long in
    ap (λ t. groups_text (take run.0 groups) ++ 58 ∷ 58 ∷ [] ++ groups_text t) whole
    ∙ subst (λ (r : ℕ × ℕ). groups_text (take r.0 groups) ++ 58 ∷ 58 ∷ [] ++ groups_text (drop (r.0 + r.1) groups) ≡ shortened_text groups) (sym is) (sym (shortened_long groups more))
    ∙ ap shortened_text same

pub short_room : (groups : List ℕ) (start len : ℕ) → length groups ≡ 8 → start + len ≤ 8 → 2 ≤ len
    → 5 * length (take start groups) - 1 + 2 + (5 * length (take (8 - (start + len)) (drop (start + len) groups)) - 1) ≤ 39
short_room groups start len eight within long =
    let back = length-drop (start + len) groups in
    let before = length-take-le start groups (omega arith) in
    let behind = length-take-le (8 - (start + len)) (drop (start + len) groups) (omega arith) in
    omega arith
