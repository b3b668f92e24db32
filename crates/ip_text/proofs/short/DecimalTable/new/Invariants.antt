-- the texts so far
use Rattle.std.proofs.Common.{◌≡◌, ℕ, ◌<◌, length, get_or}
use Rattle.ip_text.specs.declared.short.ShortText.{ShortText}
use Rattle.ip_text.specs.DecimalTable.{IsShortText}
use Rattle.ip_text.proofs.short.DecimalTable.new.Given as goal

abbrev pub invariant-loop-i : goal.invariant-loop-i
invariant-loop-i l = record {
  all : length l.texts ≡ 1000;
  made : (k : ℕ) → k < l.i → (d : ShortText) → IsShortText k (get_or l.texts k d);
}
