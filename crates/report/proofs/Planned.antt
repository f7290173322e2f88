use Rattle.std.proofs.Common.{◌≡◌, ℕ, ◌+◌, ◌<◌, ◌≤◌, List, [], ◌∷◌, ◌++◌, map, length, get_or, take, drop, Option, refl, ap, ◌∙◌, sym, subst, add-one, take-suc, drop-cons}
use Rattle.std.proofs.lemmas.List.{append_assoc, append-nil, drop_all, take_all, map-append}
use Rattle.std.specs.Borrow.{Bor}
use Rattle.std.specs.List.{AllZip}
use Rattle.std.specs.Option.{option_map}
use Rattle.entries.specs.declared.Entry.{Entry}
use Rattle.entries.specs.declared.list.Entries.{Entries}
use Rattle.machine.specs.declared.run.Request.{Request}
use Rattle.machine.specs.declared.run.Request.TheVariants as request
use Rattle.runfile.specs.declared.file.Call.{Call}
use Rattle.runfile.specs.declared.file.Record.{Record}
use Rattle.runfile.specs.Format.{Recorded, a_read, a_list}
use Rattle.runfile.specs.Reading.{recorded}
use Rattle.report.specs.declared.plan.Left.{Left}
use Rattle.report.specs.Plan.{Makes, Added, Leaves, lists_in, IsStart, IsAsked, rest_of, next_record, AsksAll}

-- The lists of the records, and the requests of the calls, one by one.

zip_push : {A B : Type 0} (R : A → B → Type 0) (xs : List A) (ys : List B) (x : A) (y : B) → AllZip R xs ys → R x y → AllZip R (xs ++ (x ∷ [])) (ys ++ (y ∷ []))
zip_push R [] [] x y p r = (r, tt)
zip_push R [] (b ∷ ys) x y p r = absurd p
zip_push R (a ∷ xs) [] x y p r = absurd p
zip_push R (a ∷ xs) (b ∷ ys) x y p r = (p.0, zip_push R xs ys x y p.1 r)

one_read : (rs : List Recorded) (w : ℕ) → lists_in rs ≡ lists_in (rs ++ (a_read w ∷ []))
unfolding lists_in
one_read [] w = refl
one_read (a_read x ∷ rs) w = one_read rs w
one_read (a_list es ∷ rs) w = ap (λ (ess : List (List Entry)). es ∷ ess) (one_read rs w)

one_list : (rs : List Recorded) (es : List Entry) → lists_in rs ++ (es ∷ []) ≡ lists_in (rs ++ (a_list es ∷ []))
unfolding lists_in
one_list [] es = refl
one_list (a_read x ∷ rs) es = one_list rs es
one_list (a_list xs ∷ rs) es = ap (λ (ess : List (List Entry)). xs ∷ ess) (one_list rs es)

added_more : (r : Recorded) (rs : List Recorded) (before after : List (Option Entries)) → AllZip Makes before (lists_in rs) → Added r before after → AllZip Makes after (lists_in (rs ++ (r ∷ [])))
added_more (a_read w) rs before after p e = subst (λ ls. AllZip Makes ls (lists_in (rs ++ (a_read w ∷ [])))) (sym e) (subst (AllZip Makes before) (one_read rs w) p)
added_more (a_list es) rs before after p (l, m, e) =
    subst (λ ls. AllZip Makes ls (lists_in (rs ++ (a_list es ∷ [])))) (sym e) (subst (AllZip Makes (before ++ (l ∷ []))) (one_list rs es) (zip_push Makes before (lists_in rs) l es p m))

pub lists_none : (ls : List (Option Entries)) → ls ≡ [] → AllZip Makes ls (lists_in [])
unfolding lists_in
lists_none ls e = subst (λ xs. AllZip Makes xs []) (sym e) tt

pub lists_more : (xs : List Record) (i : ℕ) (x : Record) (before after : List (Option Entries)) → i < length xs → x ≡ get_or xs i x → AllZip Makes before (lists_in (map recorded (take i xs))) → Added (recorded x) before after
    → AllZip Makes after (lists_in (map recorded (take (i + 1) xs)))
lists_more xs i x before after h is p added = subst (λ rs. AllZip Makes after (lists_in rs)) (sym next) (added_more (recorded x) (map recorded (take i xs)) before after p added)
  where
    next : map recorded (take (i + 1) xs) ≡ map recorded (take i xs) ++ (recorded x ∷ [])
    next = ap (λ (n : ℕ). map recorded (take n xs)) (add-one i) ∙ ap (map recorded) (take-suc xs i x h ∙ ap (λ (r : Record). take i xs ++ (r ∷ [])) (sym is)) ∙ map-append recorded (take i xs) (x ∷ [])

pub lists_all : (xs : List Record) (i : ℕ) (ls : List (Option Entries)) → length xs ≤ i → AllZip Makes ls (lists_in (map recorded (take i xs))) → AllZip Makes ls (lists_in (map recorded xs))
lists_all xs i ls h p = subst (λ (rs : List Record). AllZip Makes ls (lists_in (map recorded rs))) (take_all i xs h) p

-- the calls from number i on ask for what is left of the records
abbrev pub AsksFrom : Left → List Request → List Recorded → List Call → ℕ → Type 0
AsksFrom l qs rs cs i = (left : List Recorded) × Leaves l left × ((more : List Request) → AsksAll more left (drop i cs) → AsksAll (qs ++ more) rs cs)

pub asks_none : (l : Left) (qs : List Request) (rs : List Recorded) (cs : List Call) → qs ≡ [] → Leaves l rs → AsksFrom l qs rs cs 0
asks_none l qs rs cs e p = (rs, p, λ more a. subst (λ x. AsksAll (x ++ more) rs cs) (sym e) a)

pub asks_more : (l k : Left) (qs ps : List Request) (rs : List Recorded) (cs : List Call) (i : ℕ) (c : Call) (q : Request) → AsksFrom l qs rs cs i → i < length cs
    → ((left : List Recorded) → Leaves l left → IsAsked q (get_or cs i c).core left (get_or cs i c).action × Leaves k (next_record left (get_or cs i c).action)) → ps ≡ qs ++ (q ∷ []) → AsksFrom k ps rs cs (i + 1)
asks_more l k qs ps rs cs i c q (left, p, rest) h asked put =
    (next_record left (get_or cs i c).action, (asked left p).1, λ more a. subst (λ x. AsksAll (x ++ more) rs cs) (sym put) (subst (λ x. AsksAll x rs cs) (sym (append_assoc qs (q ∷ []) more)) (rest (q ∷ more) (subst (λ x. AsksAll (q ∷ more) left x) (sym (drop-cons cs i c h)) ((asked left p).0, subst (λ (n : ℕ). AsksAll more (next_record left (get_or cs i c).action) (drop n cs)) (add-one i) a)))))

pub asks_all : (l : Left) (qs : List Request) (rs : List Recorded) (cs : List Call) (i : ℕ) → AsksFrom l qs rs cs i → length cs ≤ i → AsksAll qs rs cs
asks_all l qs rs cs i (left, p, rest) h = subst (λ x. AsksAll x rs cs) (append-nil qs) (rest [] (subst (λ x. AsksAll [] left x) (sym (drop_all i cs h)) tt))

-- what a start takes from what is left
pub start_read : (xs ys : List Record) (ls : List (Option Entries)) (rs : List Recorded) (x : Record) (k w : ℕ) → xs ≡ x ∷ ys → recorded x ≡ a_read w → (map recorded xs ≡ rs) × AllZip Makes ls (lists_in rs)
    → IsStart (request.Read k w) k rs × ((map recorded ys ≡ rest_of rs) × AllZip Makes ls (lists_in (rest_of rs)))
unfolding lists_in
start_read xs ys ls rs x k w e is (d, p) =
    subst (λ zs. AllZip Makes ls (lists_in zs) → IsStart (request.Read k w) k zs × ((map recorded ys ≡ rest_of zs) × AllZip Makes ls (lists_in (rest_of zs))))
    (ap (λ (r : Recorded). r ∷ map recorded ys) (sym is) ∙ sym (ap (map recorded) e) ∙ d) (λ q. (refl, (refl, q))) p

pub start_list : (xs ys : List Record) (ls ms : List (Option Entries)) (rs : List Recorded) (x : Record) (k : ℕ) (es : List Entry) (l : Option (Bor Entries)) → xs ≡ x ∷ ys → recorded x ≡ a_list es
    → ((fs : List Entry) (fss : List (List Entry)) → AllZip Makes ls (fs ∷ fss) → Makes (option_map (λ b. b.now) l) fs × AllZip Makes ms fss) → (map recorded xs ≡ rs) × AllZip Makes ls (lists_in rs)
    → IsStart (request.Start k l) k rs × ((map recorded ys ≡ rest_of rs) × AllZip Makes ms (lists_in (rest_of rs)))
unfolding lists_in
start_list xs ys ls ms rs x k es l e is next (d, p) =
    subst (λ zs. AllZip Makes ls (lists_in zs) → IsStart (request.Start k l) k zs × ((map recorded ys ≡ rest_of zs) × AllZip Makes ms (lists_in (rest_of zs))))
    (ap (λ (r : Recorded). r ∷ map recorded ys) (sym is) ∙ sym (ap (map recorded) e) ∙ d) (λ q. let m = next es (lists_in (map recorded ys)) q in ((l, refl, m.0), (refl, m.1))) p
