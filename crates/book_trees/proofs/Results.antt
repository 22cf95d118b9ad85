-- What is said of a result, in other words.
use Rattle.std.proofs.Common.{IfErr, IfOk, OnOk, Result, Ok, Err}

pub if_ok : {A E : Type 0} {One Two Other : A → Type 0} (result : Result A E) → IfOk result One
    → IfOk result Two → ((answer : A) → One answer → Two answer → Other answer)
    → IfOk result Other
if_ok (Ok answer) one two so = so answer one two
if_ok (Err error) one two so = tt

pub if_err : {A E : Type 0} {One Two Other : E → Type 0} (result : Result A E) → IfErr result One
    → IfErr result Two → ((error : E) → One error → Two error → Other error)
    → IfErr result Other
if_err (Ok answer) one two so = tt
if_err (Err error) one two so = so error one two

pub on_ok : {A E One Other : Type 0} (result : Result A E) → OnOk result One → (One → Other)
    → OnOk result Other
on_ok (Ok answer) one so = so one
on_ok (Err error) one so = tt

pub ok_on : {A E Other : Type 0} {One : A → Type 0} (result : Result A E) → IfOk result One
    → ((answer : A) → One answer → Other) → OnOk result Other
ok_on (Ok answer) one so = so answer one
ok_on (Err error) one so = tt

pub on_both : {A E One Two Other : Type 0} (result : Result A E) → OnOk result One → OnOk result Two
    → (One → Two → Other) → OnOk result Other
on_both (Ok answer) one two so = so one two
on_both (Err error) one two so = tt

-- what is said of an error where something else is so is said of the error that there is
pub err_given : {A E Given : Type 0} (Says : E → Type 0) (result : Result A E)
    → (Given → IfErr result Says) → IfErr result (λ error. Given → Says error)
err_given Says (Ok answer) says = tt
err_given Says (Err error) says = says
