-- What a reader holds that keeps what its reads return.
use Rattle.std.specs.Prelude.{◌≡◌, ℕ, Bool, true, false, List, [], ◌++◌}
use Rattle.std.proofs.Common.{sym, ap, ◌∙◌, append-nil, append_assoc}
use Rattle.mrt_frame.specs.declared.logged.Logged.{Logged}

abbrev pub logged_source : {S : Type 0} → Logged S → S
logged_source r = r.source

abbrev pub log_of : {S : Type 0} → Logged S → List ℕ
log_of r = r.log.items

abbrev pub log_ends : {S : Type 0} → Logged S → Bool
log_ends r = r.at_end

abbrev pub logged_failures : {S : Type 0} → Logged S → ℕ
logged_failures r = r.failures

-- the log grew by these bytes, and the end was seen last if it was seen
abbrev pub ReadsLogged : List ℕ → List ℕ → Bool → List ℕ → Bool → Type 0
ReadsLogged old new at_end bytes ended = (new ≡ old ++ bytes) × (ended ≡ true → at_end ≡ true)

pub logged_none : (log : List ℕ) (at_end : Bool) → ReadsLogged log log at_end [] false
logged_none log at_end = (sym (append-nil log), λ e. absurd cc)

pub logged_more : (old mid new : List ℕ) (was is : Bool) (bytes more : List ℕ) (ended : Bool) → ReadsLogged old mid was bytes false → ReadsLogged mid new is more ended → ReadsLogged old new is (bytes ++ more) ended
logged_more old mid new was is bytes more ended p q = (q.0 ∙ ap (λ l. l ++ more) p.0 ∙ append_assoc old bytes more, q.1)
