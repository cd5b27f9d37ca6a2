-- Values as contracts see them: plain data, without memory. `view` (in View) leads here from a `Value`.
use Rattle.std.specs.Prelude.{ℕ, ℤ, Bool, List}

-- what a dynamic shape's value holds
mutual
  pub data Dynamic : Type 0 where
    dyn_null : Dynamic
    dyn_bool : Bool → Dynamic
    dyn_int : ℤ → Dynamic
    dyn_nat : ℕ → Dynamic
    dyn_text : List ℕ → Dynamic
    dyn_bytes : List ℕ → Dynamic
    dyn_array : Dynamics → Dynamic
    dyn_object : Members → Dynamic

  pub data Dynamics : Type 0 where
    no_dynamics : Dynamics
    first_dynamic : Dynamic → Dynamics → Dynamics

  pub data Members : Type 0 where
    no_members : Members
    member : List ℕ → Dynamic → Members → Members

-- a value of any shape
mutual
  pub data Val : Type 0 where
    unit : Val
    bool : Bool → Val
    char : ℕ → Val
    int : ℤ → Val
    nat : ℕ → Val
    text : List ℕ → Val
    token : ℕ → Val
    product : Vals → Val
    variant : ℕ → Vals → Val
    none : Val
    some : Val → Val
    ok : Val → Val
    err : Val → Val
    list_of : Vals → Val
    map_of : Entries → Val
    set_of : Vals → Val
    ptr : Val → Val
    dyn : Dynamic → Val

  pub data Vals : Type 0 where
    no_vals : Vals
    first : Val → Vals → Vals

  pub data Entries : Type 0 where
    no_entries : Entries
    entry : Val → Val → Entries → Entries
