use Rattle.std.proofs.Common.{◌≡◌, ◌∙◌, ap, sym}
use Rattle.std.specs.FinMap as finite
use Rattle.std.specs.FinMap.{find, put}
use Rattle.std.proofs.lemmas.Result.{IfOk-weaker, on_ok_weaker}
use Rattle.bgp_prefix.specs.Keys.{key_cmp}
use Rattle.prefix_maps.proofs.MapLaws.{found, inserted, Changes-put}
use Rattle.chunked_map.proofs.chunked_map.ChunkedMapPrefixMap.insert.Goals as goal

pub returns-in-Ok-clause-before : goal.returns-in-Ok-clause-before
returns-in-Ok-clause-before g c = sym (found c.args.self.now c.args.key.now ∙ c.in-Ok.ensures.absent)

pub returns-in-Ok-clause-ok : goal.returns-in-Ok-clause-ok
returns-in-Ok-clause-ok g c =
    let old = c.args.self.now in
    let new = c.push_within_capacity.new.self in
    inserted old new c.args.key.now c.args.value (Changes-put old new c.args.key.now c.args.value c.in-Ok.ensures.ok)

pub returns-in-Err-clause-before : goal.returns-in-Err-clause-before
returns-in-Err-clause-before g c =
    IfOk-weaker c.insert_anywhere.result (λ before. before ≡ find key_cmp c.args.key.now c.push_within_capacity.new.self) (λ before. before ≡ finite.get (finite.from_entries {R = key_cmp} c.args.self.now) c.args.key.now) (λ before is. is ∙ ap (find key_cmp c.args.key.now) c.in-Err.ensures.err ∙ sym (found c.args.self.now c.args.key.now)) c.insert_anywhere.ensures.before

pub returns-in-Err-clause-ok : goal.returns-in-Err-clause-ok
returns-in-Err-clause-ok g c =
    let old = c.args.self.now in
    let new = c.insert_anywhere.new.self in
    on_ok_weaker c.insert_anywhere.result (λ is.
    let stored : new ≡ put key_cmp c.args.key.now c.args.value old = is ∙ ap (put key_cmp c.args.key.now c.in-Err.value) c.in-Err.ensures.err ∙ ap (λ v. put key_cmp c.args.key.now v old) c.in-Err.ensures.value in
    inserted old new c.args.key.now c.args.value (Changes-put old new c.args.key.now c.args.value stored)) c.insert_anywhere.ensures.ok
