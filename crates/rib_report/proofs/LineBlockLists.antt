-- Blocks of lines, and the lines of their entries.
use Rattle.std.proofs.Common.{◌≡◌, ℕ, ◌+◌, ◌-◌, ◌≤◌, ◌<◌, false, List, [], ◌∷◌, ◌++◌, Some, refl, sym, ap, ◌∙◌, subst, map, length, take, drop, take_all, take-take, arith, append-nil}
use Rattle.std.proofs.Math.ListN.{set}
use Rattle.std.proofs.lemmas.List.{drop_all, map-append}
use Rattle.std.proofs.lemmas.List.Elements.{All-push}
use Rattle.std.proofs.lemmas.Grind.{take-set_at}
use Rattle.std.proofs.lemmas.List.Concat.{flat_map-append}
use Rattle.std.specs.List.{between, flat_map, All}
use Rattle.std.specs.Io.KnownBytes.{Appends}
use Rattle.bgp_prefix.specs.Keys.{RouteKey}
use Rattle.bgp_update.specs.declared.route.Route.{Route}
use Rattle.report_lines.specs.Plain.{ShownPeer}
use Rattle.rib_report.specs.declared.reports.tables.line_block.LineBlock.{LineBlock}
use Rattle.rib_report.specs.Lines.{route_line}
use Rattle.report_lines.specs.Texts.{TextState, Adds, empty_buffer}
use Rattle.rib_report.specs.Reports.{entry_row}
use Rattle.rib_report.specs.Listings.{reached_lines}
use Rattle.rib_report.specs.LineBlocks.{AreSuccessive, lines_between, range_of}
use Rattle.report_lines.proofs.TextLaws.{Adds_trans, Adds_as, Adds_none, text_begun}
use Rattle.report_lines.proofs.JoinLaws.{between_join}

-- the lines of a range behind those of the one before
pub Adds_next : {s t u : TextState} (peer : ShownPeer) (entries : List (RouteKey × Route)) (i j k : ℕ) → i ≤ j → j ≤ k
    → Adds s t (lines_between peer i j entries) → Adds t u (lines_between peer j k entries) → Adds s u (lines_between peer i k entries)
Adds_next peer entries i j k ij jk f g =
    let line : RouteKey × Route → List ℕ = λ e. route_line peer.layout (entry_row peer.key e) in
    Adds_as (sym (flat_map-append line (between i j entries) (between j k entries)) ∙ ap (flat_map line) (between_join entries i j k ij jk)) (Adds_trans f g)

-- no entry has no line
pub no_lines : {s : TextState} (peer : ShownPeer) (entries : List (RouteKey × Route)) (i : ℕ) → Adds s s (lines_between peer i i entries)
no_lines peer entries i =
    let none : 0 ≡ i - i = omega arith in
    Adds_as (ap (λ n. reached_lines peer (take n (drop i entries))) none) Adds_none

-- what was added to an empty buffer, where nothing can be written, waits in it
pub all_waits : {s t : TextState} {p : List ℕ} → s.buffer ≡ empty_buffer → s.contents ≡ Some [] → t.contents ≡ Some [] → t.buffer.failed ≡ false → Adds s t p
    → t.buffer ≡ record { waiting = p; failed = false }
all_waits {s = s} {t = t} {p = p} fresh none still well f =
    let k = text_begun fresh f in
    let nothing : [] ≡ k.front = subst (λ c. Appends c (Some []) k.front) none (subst (λ c. Appends s.contents c k.front) still k.held) in
    let waits : t.buffer.waiting ≡ p = sym (k.whole ∙ ap (λ l. l ++ k.rest) (sym nothing) ∙ k.waits well) in
    ap (λ w. record { waiting = w; failed = t.buffer.failed }) waits ∙ ap (λ b. record { waiting = p; failed = b }) well

-- the first so many of a range
pub take_between : {X : Type 0} (xs : List X) (i j k : ℕ) → i + k ≤ j → take k (between i j xs) ≡ between i (i + k) xs
take_between xs i j k le =
    let same : k ≡ (i + k) - i = omega arith in
    take-take k (j - i) (drop i xs) (omega arith) ∙ ap (λ m. take m (drop i xs)) same

-- the lines of the first so many entries of a block behind those before it
pub Adds_some : {s t u : TextState} (peer : ShownPeer) (entries : List (RouteKey × Route)) (i j end k : ℕ) → i ≤ j → j + k ≤ end
    → Adds s t (lines_between peer i j entries) → Adds t u (reached_lines peer (take k (between j end entries))) → Adds s u (lines_between peer i (j + k) entries)
Adds_some peer entries i j end k ij within f g = Adds_next peer entries i j (j + k) ij (omega arith) f (Adds_as (ap (reached_lines peer) (take_between entries j end k within)) g)

-- ---- ranges, one behind the other

pub successive_push : (at : ℕ) (rs : List (ℕ × ℕ)) (mid : ℕ) (r : ℕ × ℕ) → AreSuccessive at rs mid → r.0 ≡ mid → AreSuccessive at (rs ++ r ∷ []) r.1
successive_push at [] mid r e same = (same ∙ sym e, refl)
successive_push at (q ∷ rs) mid r p same = (p.0, successive_push q.1 rs mid r p.1 same)

-- one more block has its range
pub ranges_set : (ps : List LineBlock) (i : ℕ) (p : LineBlock) → i < length ps → map range_of (take (i + 1) (set ps i p)) ≡ map range_of (take i ps) ++ range_of p ∷ []
ranges_set ps i p lt = ap (map range_of) (take-set_at ps i (i + 1) p refl lt) ∙ map-append range_of (take i ps) (p ∷ [])

pub successive_set : (at : ℕ) (ps : List LineBlock) (i : ℕ) (p : LineBlock) (mid : ℕ) → i < length ps → AreSuccessive at (map range_of (take i ps)) mid → p.start ≡ mid
    → AreSuccessive at (map range_of (take (i + 1) (set ps i p))) p.end
successive_set at ps i p mid lt h same = subst (λ l. AreSuccessive at l p.end) (sym (ranges_set ps i p lt)) (successive_push at (map range_of (take i ps)) mid (range_of p) h same)

pub all_set : {X : Type 0} (P : X → Type 0) (xs : List X) (i : ℕ) (x : X) → i < length xs → All P (take i xs) → P x → All P (take (i + 1) (set xs i x))
all_set P xs i x lt h p = subst (All P) (sym (take-set_at xs i (i + 1) x refl lt)) (All-push P (take i xs) x h p)

-- a slice of a whole list, written back
pub written_back : {X : Type 0} (n : ℕ) (xs ys : List X) → length xs ≡ n → length ys ≡ n → take n (ys ++ drop (length ys) xs) ≡ ys
written_back n xs ys whole same =
    let none : drop (length ys) xs ≡ [] = drop_all (length ys) xs (omega (arith, whole, same)) in
    ap (λ l. take n (ys ++ l)) none ∙ ap (take n) (append-nil ys) ∙ take_all n ys (omega (arith, same))

-- the first of some blocks
pub first_range : (at end : ℕ) (ps rest : List LineBlock) (p : LineBlock) → ps ≡ p ∷ rest → AreSuccessive at (map range_of ps) end → (p.start ≡ at) × AreSuccessive p.end (map range_of rest) end
first_range at end ps rest p e h = subst (λ l. AreSuccessive at (map range_of l) end) e h

-- none is left
pub no_range : (at end : ℕ) (ps : List LineBlock) → ps ≡ [] → AreSuccessive at (map range_of ps) end → at ≡ end
no_range at end ps e h = subst (λ l. AreSuccessive at (map range_of l) end) e h
