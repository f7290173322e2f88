use Rattle.std.proofs.Common.{ℕ, ◌+◌, ◌/◌, ◌%◌, ◌^◌, ◌<◌, ◌≤◌, List, [], ◌∷◌, ◌++◌, vec_items, decimal, sym, ap, ◌∙◌, mod-eq_of_lt, arith}
use Rattle.std.proofs.lemmas.Fmt.{decimal_digit, decimal_step}
use Rattle.listing.proofs.Adding.{added_both}
use Rattle.listing.proofs.pushes.+push_number.Goals as goal
use Rattle.listing.proofs.pushes.+push_number.Goals.{then-n-ge10+in_ok-push_number, else-n-ge10}

pub returns : goal.returns
returns t c =
    let n : ℕ = c.args.n in
    let old : List ℕ = vec_items c.args.text.now in
    let digit : List ℕ = (48 + n % 10) ∷ [] in
    let last = c.in_ok-push.ensures.items in
    elim c.if-n-ge10.branch [
      | then-n-ge10+in_ok-push_number w ↦
          let many : 10 ≤ n = omega (arith, w.if-n-ge10.true) in
          let small : n < 2 ^ 64 = omega arith in
          added_both old (decimal (n / 10)) digit (ap vec_items w.text-is ∙ w.in_ok-push_number.ensures) last ∙ ap (λ (bs : List ℕ). old ++ bs) (sym (decimal_step n many small))
      | else-n-ge10 w ↦
          let few : n < 10 = omega (arith, w.if-n-ge10.false) in
          last ∙ ap (λ v. vec_items v ++ digit) w.text-is ∙ ap (λ (d : ℕ). old ++ (48 + d) ∷ []) (mod-eq_of_lt few) ∙ ap (λ (bs : List ℕ). old ++ bs) (sym (decimal_digit n few))
    ]
