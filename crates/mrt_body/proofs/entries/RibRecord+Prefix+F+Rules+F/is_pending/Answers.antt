use Rattle.std.proofs.Common.{◌<◌, length, map, sym, ap, ◌∙◌, arith}
use Rattle.std.proofs.Math.Seq.{drop-cons}
use Rattle.mrt_body.specs.declared.rib.ListedEntry.{ListedEntry}
use Rattle.mrt_body.specs.Pending.{listed_unit}
use Rattle.mrt_body.proofs.entries.RibRecord+Prefix+F+Rules+F.is_pending.Goals as goal

pub returns : goal.returns
returns g c = (
  λ e. absurd (cc),
  λ h.
      let r = c.args.self.now in
      let list = c.args.list.now in
      let other : ListedEntry = record { start = 0; identifier = 0; peer = 0; len = 0; number = 0 } in
      let within : r.given < length list = omega (arith, c.requires.given, c.if-self-list.false) in
      let more = ap (λ l. map (listed_unit r.rules r.at c.args.peers.now r.prefix r.body) l) (drop-cons list r.given other within) in
      let clash = sym more ∙ h in absurd (cc),
)
