mod Applying
mod Asked
mod Bringing
mod Lacking
mod Laws
mod Lists
mod Taking
