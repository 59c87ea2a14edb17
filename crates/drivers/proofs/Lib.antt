-- Laws of the definitions of `drivers`.
pub mod Laws
