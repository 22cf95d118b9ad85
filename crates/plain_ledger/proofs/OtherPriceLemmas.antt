-- What a period would have cost by another tariff, by the entries of a plain ledger.
use Rattle.std.proofs.Common.{◌++◌, ◌∷◌, [], cond, ◌≡◌, ◌≤◌, ◌∙◌, ℕ, List, length, map, refl, sym}
use Rattle.std.proofs.Common.{ap, subst, true, false, Bool, not, Option, Some, None, Result, Ok}
use Rattle.std.proofs.Common.{Err, arith, All, filter, nat_lt, sum_by, ok_or, if◌then◌else◌}
use Rattle.std.proofs.Common.{append_assoc}
use Rattle.std.specs.Map.{keys_of}
use Rattle.book_model.proofs.Std.{IsStrictlySortedBy, length-map, length-filter_both, nat_tests}
use Rattle.book_model.proofs.Std.{map-map}
use Rattle.book_model.specs.declared.fault.LedgerFault.{LedgerFault}
use Rattle.book_model.specs.declared.fault.LedgerFault.TheVariants.{Full, NoSuchPeriod}
use Rattle.book_model.specs.declared.row.ChargeRow.{ChargeRow}
use Rattle.book_model.specs.Words.{Priced, AreRows, FitSums, IsPriced, Naming, Period, Rulings}
use Rattle.book_model.specs.Words.{Terms, by_bytes, most_cost, most_held, price_by, rows_if_room}
use Rattle.book_model.specs.Words.{rows_of, what_if_answer}
use Rattle.book_model.proofs.RowLemmas.{rows_if_room-alike}
use Rattle.book_model.proofs.Lemmas.{SumsAlike, map-alike}
use Rattle.plain_ledger.specs.Plain.{AreBooked, Entry, record_of}
use Rattle.plain_ledger.specs.Treatments.{records_where}
use Rattle.plain_ledger.proofs.HeldLemmas.{bytes_of}
use Rattle.book_core.proofs.ListLimits.{priced_fit, priced_shown}
use Rattle.plain_ledger.proofs.TreatmentLemmas.{where-alike}

-- what the entries would cost by a tariff that pass a test
abbrev pub costs_where : Terms → (Entry → Bool) → List Entry → List Priced
costs_where terms test entries =
    map (λ (entry : Entry). price_by terms (record_of entry.1)) (filter test entries)

-- what is made of the next entry that passes joins what is made of those before it
pub made_joins : {X : Type 0} (make : Entry → X) (test : Entry → Bool) (entry : Entry)
    (rest left : List Entry) (before now : List X) (one : X) → left ≡ entry ∷ rest
    → test entry ≡ true → one ≡ make entry → now ≡ before ++ one ∷ []
    → now ++ map make (filter test rest) ≡ before ++ map make (filter test left)
made_joins {X} make test entry rest left before now one takes passes made pushes =
    let later : List Entry = filter test rest in
    ap (λ all. all ++ map make later) pushes
    ∙ append_assoc before (one ∷ []) (map make later)
    ∙ ap (λ (one : X). before ++ one ∷ map make later) made
    ∙ ap (λ b. before ++ map make (cond b (entry ∷ later) later)) (sym passes)
    ∙ ap (λ left. before ++ map make (filter test left)) (sym takes)

-- and so do its costs
pub cost_joins : (terms : Terms) (test : Entry → Bool) (entry : Entry) (rest left : List Entry)
    (before now : List Priced) (one : Priced) → left ≡ entry ∷ rest → test entry ≡ true
    → one ≡ price_by terms (record_of entry.1) → now ≡ before ++ one ∷ []
    → now ++ costs_where terms test rest ≡ before ++ costs_where terms test left
cost_joins terms = made_joins (λ (entry : Entry). price_by terms (record_of entry.1))

-- where there is no such period, that is the answer
refused : (terms : Terms) (found : Option Period) (fault : LedgerFault)
    → ok_or found NoSuchPeriod ≡ Err fault → what_if_answer terms found ≡ Err fault
refused terms None fault is = ap (λ (of : Result Period LedgerFault). again of) is
  where
    again : Result Period LedgerFault → Result (List ChargeRow) LedgerFault
    again (Ok period) = Err NoSuchPeriod
    again (Err fault) = Err fault
refused terms (Some period) fault is = cc

module _ {naming : Naming} {rulings : Rulings} {entries : List Entry} {total : ℕ}
    (kept : AreBooked naming rulings entries total)
    (rising : IsStrictlySortedBy by_bytes (keys_of entries)) where
  -- a period's records are those of the entries that pass a test, and so are their costs
  pub answer_under : (terms : Terms) (test : Entry → Bool) (found : Option Period) (period : Period)
      → ok_or found NoSuchPeriod ≡ Ok period → period.counted ≡ records_where test entries
      → what_if_answer terms found ≡ rows_if_room (costs_where terms test entries)
  answer_under terms test None period is counted = cc
  answer_under terms test (Some own) period is counted =
      let same : own ≡ period = cc in
      let costs : SumsAlike _ (map (price_by terms) (map bytes_of (filter test entries))) =
      map-alike (price_by terms) (where-alike kept rising test) in
      ap (λ (period : Period). what_if_answer terms (Some period)) same
      ∙ ap (λ records. what_if_answer terms (Some (record period { counted = records }))) counted
      ∙ rows_if_room-alike costs
      ∙ ap rows_if_room (map-map (price_by terms) bytes_of (filter test entries))

-- the answer by whether the costs are too dear
pub when_dear : (costs : List Priced) → nat_lt most_cost (sum_by (λ one. one.amount) costs) ≡ true
    → rows_if_room costs ≡ Err Full
when_dear costs dear = ap (λ b. if b then Err Full else Ok (rows_of costs)) dear

pub when_room : (costs : List Priced) → nat_lt most_cost (sum_by (λ one. one.amount) costs) ≡ false
    → rows_if_room costs ≡ Ok (rows_of costs)
when_room costs room = ap (λ b. if b then Err Full else Ok (rows_of costs)) room

-- then they are no more than the books hold
cost_small : (costs : List Priced)
    → nat_lt most_cost (sum_by (λ one. one.amount) costs) ≡ false
    → sum_by (λ one. one.amount) costs ≤ most_cost
cost_small costs room = grind (arith, nat_tests, room)

-- there is room for the same prices in another list
pub room_of : {seen prices : List Priced} → seen ≡ prices
    → nat_lt most_cost (sum_by (λ one. one.amount) seen) ≡ false
    → nat_lt most_cost (sum_by (λ one. one.amount) prices) ≡ false
room_of same room =
    subst (λ prices. nat_lt most_cost (sum_by (λ one. one.amount) prices) ≡ false) same room

-- they are no more than the ledger may hold records
few_under : (terms : Terms) (test : Entry → Bool) (entries : List Entry) (prices : List Priced)
    → length entries ≤ most_held → prices ≡ costs_where terms test entries
    → length prices ≤ most_held
few_under terms test entries prices few is =
    let same : length prices ≡ length (costs_where terms test entries) = ap length is in
    let mapped = length-map (filter test entries)
    (λ (entry : Entry). price_by terms (record_of entry.1)) in
    let both = length-filter_both test (λ entry. not (test entry)) (λ entry. refl) entries in
    omega arith

-- so where there is room their sums fit 64 bits
pub fit_under : (terms : Terms) (test : Entry → Bool) (entries : List Entry) (prices : List Priced)
    → length entries ≤ most_held → prices ≡ costs_where terms test entries → All IsPriced prices
    → nat_lt most_cost (sum_by (λ one. one.amount) prices) ≡ false → FitSums prices
fit_under terms test entries prices few is priced room =
    priced_fit prices priced (few_under terms test entries prices few is) (cost_small prices room)

-- and their rows can be shown
pub shown_under : (terms : Terms) (test : Entry → Bool) (entries : List Entry)
    (prices : List Priced)
    → length entries ≤ most_held → prices ≡ costs_where terms test entries → All IsPriced prices
    → nat_lt most_cost (sum_by (λ one. one.amount) prices) ≡ false → AreRows (rows_of prices)
shown_under terms test entries prices few is priced room =
    priced_shown prices priced (few_under terms test entries prices few is) (cost_small prices room)
