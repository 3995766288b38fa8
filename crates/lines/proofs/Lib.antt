-- Laws of lines: by places, and cut further on.
pub mod Laws
