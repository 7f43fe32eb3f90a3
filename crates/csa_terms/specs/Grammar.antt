-- The grammar of the terms file: its tests in order, each with its path, its kind of value and its range; the first fault ends
-- them. Other keys are passed over. What a set posts by stands in a table of its own, `post`, or is what it collects by.
-- (ISDA 2016 Credit Support Annex for Initial Margin: the terms that its paragraph 13 fills in.)
use Rattle.std.specs.Prelude.{ℕ, ◌+◌, List, [], ◌∷◌, ◌++◌, Bool, false, ◌||◌, nat_lt, if◌then◌else◌, Option, Some, None, is_some, ok_or, Result, Ok, Err, ℤ, pos, codes}
use Rattle.std.specs.BTreeSet.{insert_key}
use Rattle.std.specs.List.{list_any}
use Rattle.std.specs.Ordering.{int_cmp}
use Rattle.toml.specs.Data.{Data, Items, no_items, item, Members, no_members, member, get_member, as_table}
use Rattle.toml_values.specs.SimmKinds.Order.{same_name}
use Rattle.toml_values.specs.declared.range.Range.{Range}
use Rattle.toml_values.specs.declared.fault.ValueFault.{ValueFault}
use Rattle.toml_values.specs.declared.fault.ValueFault.TheVariants.{Missing, OutOfRange}
use Rattle.toml_values.specs.Answers.{◌>>=◌}
use Rattle.toml_values.specs.Values.{members_count, items_count, array_of, table_of, money_of, rate_of}
use Rattle.toml_values.specs.Places.{each_of}
use Rattle.toml_values.specs.Document.{document_of}
use Rattle.csa_terms.specs.declared.fault.TermsFault.{TermsFault}
use Rattle.csa_terms.specs.declared.fault.TermsFault.TheVariants.{Toml, DuplicateSet, TooManySets}
use Rattle.csa_terms.specs.declared.terms_path.TermsTable.{TermsTable}
use Rattle.csa_terms.specs.declared.terms_path.TermsTable.TheVariants.{Own, Post}
use Rattle.csa_terms.specs.Terms.{Haircut, Agreement, Agreements}
use Rattle.csa_terms.specs.Paths.{sets_path, set_path, key_path, class_path, holiday_path}
use Rattle.csa_terms.specs.Ranges.{amounts, units, shares}
use Rattle.csa_terms.specs.Faults.{of_value}
use Rattle.csa_terms.specs.Values.{set_name_of, name_of, minute_of, date_of}

-- more than the most are out of range, with their count
abbrev pub at_most : ℕ → List ℕ → ℕ → Result (Unit {0}) ValueFault
at_most most path count = if nat_lt most count then Err (OutOfRange path (pos count)) else Ok tt

-- ---- haircuts, in the order of their classes: the class is tested before its rate

unfoldable pub haircut_of_entry : TermsTable → List ℕ → Data → Result Haircut TermsFault
haircut_of_entry at class value = do
  name ← name_of (class_path at class) class
  rate ← of_value (rate_of (class_path at class) shares (Some value))
  Ok (record { class = name; rate = rate })

unfoldable pub haircuts_of : TermsTable → Members → Result (List Haircut) TermsFault
haircuts_of at no_members = Ok []
haircuts_of at (member class value rest) = do
  haircut ← haircut_of_entry at class value
  others ← haircuts_of at rest
  Ok (haircut ∷ others)

unfoldable pub haircut_table_of : TermsTable → Members → Result (List Haircut) TermsFault
haircut_table_of at table = do
  entries ← of_value (table_of (key_path at (codes "haircuts")) (get_member (codes "haircuts") table))
  few ← of_value (at_most 256 (key_path at (codes "haircuts")) (members_count entries))
  haircuts_of at entries

-- ---- holidays, whose places count from 1: behind the days of the places before, each day once and in order

unfoldable pub holidays_from : ℕ → List ℤ → ℕ → Items → Result (List ℤ) TermsFault
holidays_from set days place no_items = Ok days
holidays_from set days place (item value rest) = do
  day ← date_of (holiday_path set place) (Some value)
  holidays_from set (insert_key int_cmp days day) (place + 1) rest

unfoldable pub holiday_list_of : ℕ → Members → Result (List ℤ) TermsFault
holiday_list_of set table = do
  places ← of_value (array_of (key_path (Own set) (codes "holidays")) (get_member (codes "holidays") table))
  few ← of_value (at_most 4096 (key_path (Own set) (codes "holidays")) (items_count places))
  holidays_from set [] 1 places

-- ---- a set

abbrev pub money_at : TermsTable → List ℕ → Members → Range → Result ℤ ValueFault
money_at at key table range = money_of (key_path at key) range (get_member key table)

unfoldable pub amounts_of : TermsTable → Members → Result (ℤ × ℤ × ℤ × ℤ) ValueFault
amounts_of at table = do
  threshold ← money_at at (codes "threshold") table amounts
  mta_delivery ← money_at at (codes "mta_delivery") table amounts
  mta_return ← money_at at (codes "mta_return") table amounts
  rounding ← money_at at (codes "rounding") table units
  Ok (threshold, mta_delivery, mta_return, rounding)

abbrev pub fx_haircut_of : TermsTable → Members → Result ℤ ValueFault
fx_haircut_of at table = rate_of (key_path at (codes "fx_haircut")) shares (get_member (codes "fx_haircut") table)

-- the terms by which it collects margin
unfoldable pub collect_of : ℕ → Members → Result Agreement TermsFault
collect_of set table = do
  name ← set_name_of (key_path (Own set) (codes "name")) (get_member (codes "name") table)
  cents ← of_value (amounts_of (Own set) table)
  notification ← minute_of (key_path (Own set) (codes "notification")) (get_member (codes "notification") table)
  fx_haircut ← of_value (fx_haircut_of (Own set) table)
  haircuts ← haircut_table_of (Own set) table
  holidays ← holiday_list_of set table
  Ok (record {
    name = name;
    threshold = cents.0;
    mta_delivery = cents.1;
    mta_return = cents.2;
    rounding = cents.3;
    notification = notification;
    fx_haircut = fx_haircut;
    haircuts = haircuts;
    holidays = holidays;
  })

-- the terms by which it posts, of its table of them; what is of neither side stays
unfoldable pub posting_of : ℕ → Members → Agreement → Result Agreement TermsFault
posting_of set table collect = do
  cents ← of_value (amounts_of (Post set) table)
  fx_haircut ← of_value (fx_haircut_of (Post set) table)
  haircuts ← haircut_table_of (Post set) table
  Ok (record {
    name = collect.name;
    threshold = cents.0;
    mta_delivery = cents.1;
    mta_return = cents.2;
    rounding = cents.3;
    notification = collect.notification;
    fx_haircut = fx_haircut;
    haircuts = haircuts;
    holidays = collect.holidays;
  })

-- where there is no such table, they are those by which it collects
unfoldable pub post_of : ℕ → Option Data → Agreement → Result Agreement TermsFault
post_of set None collect = Ok collect
post_of set (Some value) collect = do
  table ← of_value (table_of (key_path (Own set) (codes "post")) (Some value))
  posting_of set table collect

unfoldable pub set_of : ℕ → Members → Result Agreements TermsFault
set_of set table = do
  collect ← collect_of set table
  post ← post_of set (get_member (codes "post") table) collect
  Ok (record { collect = collect; post = post })

-- ---- the sets, counted from 1

unfoldable pub set_of_place : ℕ → Data → Result Agreements TermsFault
set_of_place number value = do
  table ← of_value (table_of (set_path number) (Some value))
  set_of number table

abbrev pub set_at : ℕ → List Agreements → Data → Result Agreements TermsFault
set_at number before value = set_of_place number value

-- a place has a table
abbrev pub has_table : Items → Bool
has_table no_items = false
has_table (item value rest) = is_some (as_table value) || has_table rest

abbrev pub some_table : Items → Result (Unit {0}) ValueFault
some_table places = if has_table places then Ok tt else Err (Missing sets_path)

abbrev pub few_sets : ℕ → Result (Unit {0}) TermsFault
few_sets count = if nat_lt 16 count then Err (TooManySets count) else Ok tt

-- the first name that stood before, in the order of the sets
abbrev pub repeated : List (List ℕ) → List Agreements → Option (List ℕ)
repeated before [] = None
repeated before (set ∷ sets) =
    if list_any (same_name set.collect.name) before then Some set.collect.name else repeated (before ++ set.collect.name ∷ []) sets

abbrev pub once_each : Option (List ℕ) → Result (Unit {0}) TermsFault
once_each None = Ok tt
once_each (Some name) = Err (DuplicateSet name)

-- ---- the file

unfoldable pub terms_of_table : Members → Result (List Agreements) TermsFault
terms_of_table root = do
  places ← of_value (array_of sets_path (get_member (codes "set") root))
  few ← few_sets (items_count places)
  some ← of_value (some_table places)
  sets ← each_of set_at 1 [] places
  different ← once_each (repeated [] sets)
  Ok sets

unfoldable pub terms_of : List ℕ → Result (List Agreements) TermsFault
terms_of bytes = do
  root ← ok_or (document_of bytes) Toml
  terms_of_table root
