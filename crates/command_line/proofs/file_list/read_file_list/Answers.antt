use Rattle.std.proofs.Common.{◌<◌, Bor, IfSome, Option, length, ◌≡◌, ◌∙◌, ◌+◌, ◌++◌, ◌∷◌, [], ℕ, Bool, not, refl, true, false, List, map, string_bytes, ap, sym, subst}
use Rattle.std.specs.Option.{is_some}
use Rattle.std.proofs.lemmas.List.{map-append}
use Rattle.command_line.specs.FileLists.{is_passed, pieces_of}
use Rattle.command_line.proofs.FileNames.{IsRead, pass_over, read_on}
use Rattle.command_line.proofs.file_list.read_file_list.Goals as goal
use Rattle.command_line.proofs.file_list.read_file_list.Goals.{then-not-is_passed+in_ok-text_of+in_ok-push, else-not-is_passed}

not_is : (b : Bool) → not b ≡ true → b ≡ false
not_is true e = sym e
not_is false e = refl

pub names-preserved : goal.names-preserved
names-preserved c =
    let end = c.end_of-end.result in
    let text = c.args.text.now in
    let rest = c.names.rest.now in
    let behind = c.in-Some.behind.now in
    let number = c.names.number in
    let named = map string_bytes c.names.names.items in
    let name = c.first_piece.result.0.now in
    let first : pieces_of end rest ≡ name ∷ pieces_of end behind = subst (λ (o : Option (Bor (List ℕ))). IfSome o (λ left. pieces_of end rest ≡ name ∷ pieces_of end left.now)) c.in-Some.is c.first_piece.ensures.more in
    let shorter : length behind < length rest = subst (λ (o : Option (Bor (List ℕ))). IfSome o (λ left. length left.now < length rest)) c.in-Some.is c.first_piece.ensures.shorter in
    let not_last : c.is_none.result ≡ false = not_is _ (sym c.is_none.ensures ∙ ap is_some c.in-Some.is) in
    elim c.if-not-is_passed.branch [
      | then-not-is_passed+in_ok-text_of+in_ok-push w ↦ subst (λ (l : List (List ℕ)). IsRead end text behind (number + 1) l) (sym (ap (λ v. map string_bytes v.items) w.names-is ∙ ap (map string_bytes) w.in_ok-push.ensures.items ∙ map-append string_bytes c.names.names.items (w.in_ok-text_of.field-0 ∷ []) ∙ ap (λ (t : List ℕ). named ++ t ∷ []) w.in_ok-text_of.ensures.text)) (read_on end text rest number named c.names.invariant name behind first shorter (ap (λ b. is_passed end b name) (sym not_last) ∙ sym w.if-not-is_passed.ensures))
      | else-not-is_passed w ↦ subst (λ (l : List (List ℕ)). IsRead end text behind (number + 1) l) (sym (ap (λ v. map string_bytes v.items) w.names-is)) (pass_over end text rest number named c.names.invariant name behind first shorter (ap (λ b. is_passed end b name) (sym not_last) ∙ sym w.if-not-is_passed.ensures))
    ]
